-- What reading a filter comes to, and what reading a part of one does.
use Rattle.std.specs.Prelude.{◌≡◌, Option, None, Some, MatchResult, Result}
use Rattle.fk_filter.specs.declared.fault.FilterFault.{FilterFault}
use Rattle.fk_filter.specs.declared.fault.FilterFault.TheVariants.{BadFilter}

-- what was read is what is there, and it was bad only where nothing is there
abbrev pub Reads : {X : Type 0} → Option X → Result X FilterFault → Type 0
Reads {X} there result =
    MatchResult result (λ x. there ≡ Some x) (λ fault. fault ≡ BadFilter → there ≡ None)
