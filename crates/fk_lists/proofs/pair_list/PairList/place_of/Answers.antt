use Rattle.std.proofs.Common.{rules, length}
use Rattle.std.specs.List.Sorted.{IsSearchInRange}
use Rattle.std.proofs.lemmas.List.Sorted.{answers_always}
use Rattle.fk_model.specs.Orders.{number_in}
use Rattle.fk_lists.proofs.Searched.{searched}
use Rattle.fk_lists.proofs.pair_list.PairList.place_of.Goals as goal

-- the closure gives a pair's first number
pub returns : goal.returns
returns c =
    let find = c.binary_search_by_key in
    let bound : IsSearchInRange find.result (length c.self.inside.pairs.items) = search (rules, find.ensures.bound) in
    let by_number = find.ensures.position number_in (answers_always _ _ _ (λ f a r g called. search rules)) in
    let rising = rw (← c.self.view_is) at c.requires in
    rw (← c.self.view_is) (searched c.self.inside.pairs.items rising c.args.number find.result bound by_number)
