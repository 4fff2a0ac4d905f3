use Rattle.std.proofs.Common.{rules, length}
use Rattle.std.specs.List.Sorted.{IsSearchInRange}
use Rattle.std.proofs.lemmas.List.Sorted.{answers_always}
use Rattle.fk_model.specs.Rows.{ticket_of}
use Rattle.fk_rows.proofs.Rising.{searched}
use Rattle.fk_rows.proofs.chunk.Chunk.place_of.Goals as goal

-- the closure gives a ticket
pub returns : goal.returns
returns c =
    let find = c.binary_search_by_key in
    let bound : IsSearchInRange find.result (length c.self.inside.filed.items) = search (rules, find.ensures.bound) in
    let by_ticket = find.ensures.position ticket_of (answers_always _ _ _ (λ f a r g called. search rules)) in
    let rising = rw (← c.self.view_is) at c.requires in
    rw (← c.self.view_is) (searched c.self.inside.filed.items rising c.args.ticket find.result bound by_ticket)
