use Rattle.orc_workers.proofs.work.run_poster.Goals as goal

pub post_records-requires : goal.post_records-requires
post_records-requires g c = record {
  desk = c.requires.desk;
  good = c.requires.good;
  poster = c.requires.poster;
  none = c.requires.none;
  room = c.requires.room;
}

pub returns : goal.returns
returns g c = record {
  desk = c.post_records.ensures.desk;
  posting = c.post_records.ensures.posting;
  in_file_order = c.post_records.ensures.in_file_order;
  spare = c.post_records.ensures.spare;
}
