-- A fact of the value that there may be.
use Rattle.std.proofs.Common.{Err, IfOk, Ok, Result}

pub if_ok : {A E : Type 0} (r : Result A E) (P Q : A → Type 0) → ((a : A) → P a → Q a) → IfOk r P → IfOk r Q
if_ok (Ok a) P Q leads h = leads a h
if_ok (Err e) P Q leads h = tt

pub if_ok_both : {A E : Type 0} (r : Result A E) (P Q R : A → Type 0) → IfOk r P → IfOk r Q → ((a : A) → P a → Q a → R a) → IfOk r R
if_ok_both (Ok a) P Q R h k leads = leads a h k
if_ok_both (Err e) P Q R h k leads = tt
