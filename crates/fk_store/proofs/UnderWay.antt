-- Moves that are made one behind the other: those that are left lead on to where all of them lead.
use Rattle.std.proofs.Common.{◌≡◌, ◌↔◌, sym, refl, arith, length, List, [], ◌∷◌, ◌++◌}
use Rattle.std.specs.Prelude.{Result, Err, IsErrAnd}
use Rattle.std.proofs.lemmas.Result.{err_from_is_err_and}
use Rattle.fk_model.specs.declared.move_.Move.{Move}
use Rattle.fk_model.specs.State.{KeptState}
use Rattle.fk_model.specs.Changes.{after_move, after_moves, Fits, FitInTurn, Lead}

-- all moves fit exactly where those that are left do, and lead to where those do
pub record IsUnderWay (moves left : List Move) (before now : KeptState) : Type 0 where
  pub fit : FitInTurn before moves ↔ FitInTurn now left
  pub come : after_moves before moves ≡ after_moves now left

pub none_made : (moves left : List Move) (kept : KeptState) → left ≡ moves → IsUnderWay moves left kept kept
none_made moves left kept same = rw same (record { fit = ((λ fit. fit), (λ fit. fit)); come = refl })

pub one_made : (moves left rest : List Move) (before now after : KeptState) (move : Move) →
    IsUnderWay moves left before now → left ≡ move ∷ rest → Fits now move → after ≡ after_move now move →
    IsUnderWay moves rest before after
unfolding FitInTurn
one_made moves left rest before now after move way is fits made =
    let on = rw is at way in
    rw made (record {
      fit = ((λ fit. (on.fit.0 fit).1), (λ fit. on.fit.1 (fits, fit)));
      come = on.come;
    })

pub all_made : (moves left : List Move) (before now : KeptState) → IsUnderWay moves left before now →
    length left ≡ 0 → Lead before moves now
unfolding FitInTurn
all_made moves [] before now way none = record { fit = way.fit.1 tt; come = sym way.come }
all_made moves (move ∷ left) before now way none = absurd (omega arith)

pub one_unfit : (moves left rest : List Move) (before now : KeptState) (move : Move) →
    IsUnderWay moves left before now → left ≡ move ∷ rest → ¬ Fits now move → ¬ FitInTurn before moves
unfolding FitInTurn
one_unfit moves left rest before now move way is unfit fit =
    let on = rw is at way in unfit (on.fit.0 fit).0

-- a move that fits, in a list of its own
pub alone_fits : (before after : KeptState) (none one : List Move) (move : Move) → none ≡ [] →
    one ≡ none ++ move ∷ [] → after ≡ before → Fits before move → FitInTurn after one
unfolding FitInTurn
alone_fits before after none one move empty added same fits =
    rw (added, empty, same) (fits, tt)

-- the fault that is handed on is the one that came
pub handed_on : {T E : Type 0} (result : Result T E) (came told : E) → IsErrAnd result (λ fault. fault ≡ came) →
    result ≡ Err told → came ≡ told
handed_on {E = E} result came told is e =
    let p = err_from_is_err_and result is in
    let fault : E = p.0 in
    let there : result ≡ Err fault = p.1 in
    let same : fault ≡ came = p.2 in
    cc
