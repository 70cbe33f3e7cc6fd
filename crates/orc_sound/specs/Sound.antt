-- A sound state.
use Rattle.orc_core.specs.Machine.{Machine}
use Rattle.orc_sound.specs.Balance.{Balance}
use Rattle.orc_sound.specs.Doomed.{DoomedRows, FreeRows}
use Rattle.orc_sound.specs.NoLeak.{NoLeak}
use Rattle.orc_sound.specs.SoundParts.{Enrolment, FreshRows, LooksAreKnown, Ranges, Scans, SlotsAreRecords, Targets}
use Rattle.orc_sound.specs.QuietScan.{QuietScans}
use Rattle.orc_sound.specs.RetirementToken.{RetirementToken}

-- what every lawful list of steps leaves
pub record IsSound (m : Machine) : Type 0 where
  pub balance : Balance m
  pub token : RetirementToken m
  pub quiet : QuietScans m
  pub doomed : DoomedRows m
  pub free : FreeRows m
  pub no_leak : NoLeak m
  pub enrolment : Enrolment m
  pub slots : SlotsAreRecords m
  pub targets : Targets m
  pub fresh : FreshRows m
  pub scans : Scans m
  pub looks : LooksAreKnown m
  pub ranges : Ranges m
