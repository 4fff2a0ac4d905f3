-- A test that says what holds.
use Rattle.std.proofs.Common.{◌≡◌, ◌↔◌, Bool, true, false, refl, sym}
use Rattle.std.specs.Prelude.{IsTrue}
use Rattle.std.proofs.lemmas.Bool.{false≢true}

pub says_so : (P : Type 0) → P → IsTrue true ↔ P
says_so P holds = (λ _. holds, λ _. refl)

pub says_not : (P : Type 0) → ¬ P → IsTrue false ↔ P
says_not P none = (λ is. absurd (false≢true is), λ holds. absurd (none holds))

-- a test that says what another does
pub is_as : (P : Type 0) (test other : Bool) → IsTrue test ↔ P → (other ≡ true → P) → (P → other ≡ true)
    → test ≡ other
is_as P true true says holds passes = refl
is_as P true false says holds passes = sym (passes (says.0 refl))
is_as P false true says holds passes = says.1 (holds refl)
is_as P false false says holds passes = refl
