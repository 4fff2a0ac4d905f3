-- The wid that was made ready, and that putting it in can't fail.
use Rattle.std.proofs.Common.{◌≡◌, ap, sym, subst, ℕ, zero, suc, ◌<◌, List, [], ◌∷◌, Option, Some, arith}
use Rattle.std.specs.Prelude.{Contains, slice_index_or, IsOk, IsSome, OnOk}
use Rattle.std.specs.declared.result.Result.{Result}
use Rattle.std.specs.declared.result.Result.TheVariants.{Ok, Err}
use Rattle.std.specs.Option.{option_to_list, is_some}

-- what an answer says holds, where it is one
pub ok_then : {T E : Type 0} (r : Result T E) (P : Type 0) → IsOk r → OnOk r P → P
ok_then (Ok x) P ok says = says
ok_then (Err e) P ok says = absurd (cc ok)

only : (name wid : List ℕ) (k : ℕ) → k < 1 → slice_index_or (name ∷ []) k wid ≡ wid → name ≡ wid
only name wid zero within is = is
only name wid (suc k) within is = absurd (omega (arith, within))

-- the one wid that was made ready is the one that is asked for
pub readied : (ready : Option (List ℕ)) (name wid : List ℕ) → Some name ≡ ready
    → Contains (option_to_list ready) wid → name ≡ wid
readied ready name wid is there =
    let one : Contains (name ∷ []) wid = subst (λ (r : Option (List ℕ)). Contains (option_to_list r) wid) (sym is) there in
    only name wid one.0 one.1 one.2

pub some_is : (ready : Option (List ℕ)) (name : List ℕ) → Some name ≡ ready → IsSome ready
some_is ready name is = sym (ap is_some is)
