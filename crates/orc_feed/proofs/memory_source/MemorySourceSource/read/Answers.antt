use Rattle.std.proofs.Common.{arith, rules, ◌≡◌, ◌∙◌, ◌+◌, ◌<◌, ◌≤◌, ap, sym, length, take, drop, drop_of_length-le}
use Rattle.std.proofs.lemmas.List.{length-append, length-drop, length-take}
use Rattle.orc_feed.specs.InMemory.{InSource}
use Rattle.orc_feed.proofs.Streams.{moved}
use Rattle.orc_feed.proofs.memory_source.MemorySourceSource.read.Goals as goal

pub returns-clause-bytes : goal.returns-clause-bytes
returns-clause-bytes c =
    let bytes = c.self.inside.bytes.items in
    let at = c.self.inside.at in
    let count = c.count-count.result in
    let left : drop at bytes ≡ c.args.self.now.left = ap (λ (s : InSource). s.left) c.self.view_is in
    let fits : at + count ≤ length bytes = search rules in
    let copied : c.copy_from_slice.new.self ≡ take count (drop at bytes) = search rules in
    let size = c.copy_from_slice.ensures.len in
    let at_end = λ (none : count ≡ 0) (room : 0 < length c.args.to.now).
    let gone = c.count-count.ensures.some none room in
    let small : length bytes ≤ at + count = search rules in
    drop_of_length-le bytes small in (
      sym left ∙ moved _ _ _ _ _ fits copied,
      λ none room. at_end none
          (omega (
            arith,
            length-append c.copy_from_slice.new.self (drop count c.args.to.now),
            length-drop count c.args.to.now,
            length-take count c.args.to.now,
            size,
          )),
    )
