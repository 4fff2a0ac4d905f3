-- A history that goes on is legal where each of its parts is, the second from where the first ends.
use Rattle.std.proofs.Common.{ℕ, List, [], ◌∷◌, ◌++◌, ◌↔◌}
use Rattle.fk_model.specs.declared.entry.Entry.{Entry}
use Rattle.fk_model.specs.State.{State}
use Rattle.fk_model.specs.History.{next_state, state_after, faults_after, IsLegalFrom}

pub legal_goes_on : (s : State) (n : ℕ) (front back : List Entry)
    → IsLegalFrom s n (front ++ back)
    ↔ (IsLegalFrom s n front × IsLegalFrom (state_after s front) (faults_after n front) back)
unfolding IsLegalFrom
legal_goes_on s n [] back = ((λ h. (tt, h)), (λ h. h.1))
legal_goes_on s n (entry ∷ front) back =
    let rest = legal_goes_on (next_state s entry) entry.told.after front back in (
      (λ h. let both = rest.0 h.2 in ((h.0, h.1, both.0), both.1)),
      (λ h. (h.0.0, h.0.1, rest.1 (h.0.2, h.1))),
    )
