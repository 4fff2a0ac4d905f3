-- A history on disk as one without: the same turns, told without a fault, and where one wasn't made, memory ran out.
use Rattle.std.proofs.Common.{◌≡◌, ◌∙◌, ◌↔◌, refl, sym, ap, subst, ℕ, ◌≤◌, List, [], ◌∷◌, ◌++◌, map, inl, arith}
use Rattle.std.proofs.lemmas.List.{map-append}
use Rattle.fk_model.specs.declared.answer.Answer.{Answer}
use Rattle.fk_model.specs.declared.answer.Answer.TheVariants.{Said, NoMemory, Full, DiskFault}
use Rattle.fk_model.specs.declared.told.Told.{Told}
use Rattle.fk_model.specs.declared.told.Compaction.TheVariants.{NotDue}
use Rattle.fk_model.specs.declared.entry.Entry.{Entry}
use Rattle.fk_model.specs.declared.move_.Move.{Move}
use Rattle.fk_model.specs.Limits.{greatest_next}
use Rattle.fk_model.specs.State.{State}
use Rattle.fk_model.specs.Between.{IsBetweenTurns}
use Rattle.fk_model.specs.Said.{Effect}
use Rattle.fk_model.specs.History.{turn_of, left_by, next_state, state_after, faults_after, IsRightAnswer, IsRight, IsLegalFrom}
use Rattle.fk_model.specs.PushEnds.{push_ended_at, push_ended}
use Rattle.fk_model.specs.Given.{added, added_by}
use Rattle.fk_model.proofs.BetweenTurns.{beginnings_keep, beginnings_within, next_keeps}
use Rattle.fk_lives.specs.OnDisk.{Server, behind_piece, moves_of_entry, left_on_disk, next_on_disk, after_on_disk, IsRightOnDisk, IsStepOnDisk, IsLegalOnDisk}

-- ---- the states

pub behind_state : (server : Server) (state : State) (moves : List Move)
    → (behind_piece server state moves).state ≡ state
behind_state server state [] = refl
behind_state server state (move ∷ moves) = refl

left_state : (server : Server) (entry : Entry) (answer : Answer)
    → (left_on_disk answer server entry).state ≡ left_by answer server.state (turn_of server.state entry)
left_state server entry (Said reply) =
    behind_state server (turn_of server.state entry).state (moves_of_entry server entry)
left_state server entry NoMemory = refl
left_state server entry Full = refl
left_state server entry DiskFault = refl

pub next_state_on_disk : (server : Server) (entry : Entry)
    → (next_on_disk server entry).state ≡ next_state server.state entry
unfolding next_on_disk next_state
next_state_on_disk server entry = left_state server entry entry.answer

-- a history on disk leads to the state to which it leads without one
pub states_agree : (server : Server) (entries : List Entry)
    → (after_on_disk server entries).state ≡ state_after server.state entries
states_agree server [] = refl
states_agree server (entry ∷ entries) =
    states_agree (next_on_disk server entry) entries
    ∙ ap (λ s. state_after s entries) (next_state_on_disk server entry)

-- ---- entries without a disk

-- the answer of a turn that was made stays, and in the place of each other memory ran out
abbrev pub calm_answer : Answer → Answer
calm_answer (Said reply) = Said reply
calm_answer NoMemory = NoMemory
calm_answer Full = NoMemory
calm_answer DiskFault = NoMemory

-- the moment and the word, and neither a fault nor a compaction
abbrev pub calm_told : Told → Told
calm_told told = record { moment = told.moment; word = told.word; before = 0; after = 0; compaction = NotDue }

abbrev pub calm : Entry → Entry
calm entry = record {
  seat = entry.seat;
  ask = entry.ask;
  told = calm_told entry.told;
  answer = calm_answer entry.answer;
}

left_calm : (answer : Answer) (s : State) (effect : Effect)
    → left_by (calm_answer answer) s effect ≡ left_by answer s effect
left_calm (Said reply) s effect = refl
left_calm NoMemory s effect = refl
left_calm Full s effect = refl
left_calm DiskFault s effect = refl

-- it leads to the same state
pub next_calm : (s : State) (entry : Entry) → next_state s (calm entry) ≡ next_state s entry
unfolding next_state
next_calm s entry = left_calm entry.answer s (turn_of s entry)

-- and so does a history of such entries
pub state_calm : (s : State) (entries : List Entry) → state_after s (map calm entries) ≡ state_after s entries
state_calm s [] = refl
state_calm s (entry ∷ entries) =
    ap (λ t. state_after t (map calm entries)) (next_calm s entry) ∙ state_calm (next_state s entry) entries

pub parts_calm : (s : State) (front back : List Entry)
    → state_after s (map calm front ++ map calm back) ≡ state_after s (front ++ back)
parts_calm s front back =
    sym (ap (λ all. state_after s all) (map-append calm front back)) ∙ state_calm s (front ++ back)

-- it adds the same
pub added_calm : (s : State) (entry : Entry) (answer : Answer)
    → added_by s (calm entry) (calm_answer answer) ≡ added_by s entry answer
added_calm s entry (Said reply) = refl
added_calm s entry NoMemory = refl
added_calm s entry Full = refl
added_calm s entry DiskFault = refl

pub all_added_calm : (s : State) (entries : List Entry) → added s (map calm entries) ≡ added s entries
all_added_calm s [] = refl
all_added_calm s (entry ∷ entries) =
    rw (
      added_calm s entry entry.answer,
      next_calm s entry,
      all_added_calm (next_state s entry) entries,
    ) refl

-- it ends the same
ended_at_calm : (s : State) (entry : Entry) (ticket : ℕ) (answer : Answer)
    → push_ended_at s (calm entry) ticket (calm_answer answer) ≡ push_ended_at s entry ticket answer
ended_at_calm s entry ticket (Said reply) = refl
ended_at_calm s entry ticket NoMemory = refl
ended_at_calm s entry ticket Full = refl
ended_at_calm s entry ticket DiskFault = refl

pub ended_calm : (s : State) (entries : List Entry) (ticket : ℕ)
    → push_ended s (map calm entries) ticket ≡ push_ended s entries ticket
ended_calm s [] ticket = refl
ended_calm s (entry ∷ entries) ticket =
    rw (
      ended_at_calm s entry ticket entry.answer,
      next_calm s entry,
      ended_calm (next_state s entry) entries ticket,
    ) refl

-- ---- what is legal

right_calm : (server : Server) (entry : Entry) (answer : Answer) → IsRightOnDisk server entry answer
    → IsRightAnswer server.state (calm entry) (calm_answer answer)
right_calm server entry (Said reply) right = ((λ over. right.0 (inl over)), right.1)
right_calm server entry NoMemory right = tt
right_calm server entry Full right = tt
right_calm server entry DiskFault right = tt

step_calm : (server : Server) (entry : Entry) (after : Server) → IsStepOnDisk server entry after
    → IsRight server.state (calm entry)
step_calm server entry after step = record {
  in_range = step.in_range;
  told = record {
    moment = step.told.moment;
    word = step.told.word;
    before = refl;
    after = refl;
    compaction = refl;
  };
  answer = right_calm server entry entry.answer step.answer;
}

-- a legal history on disk is one without
pub legal_calm : (server : Server) (faults : ℕ) (entries : List Entry) → IsLegalOnDisk server faults entries
    → IsLegalFrom server.state 0 (map calm entries)
unfolding IsLegalOnDisk IsLegalFrom
legal_calm server faults [] legal = tt
legal_calm server faults (entry ∷ entries) legal =
    let next = next_on_disk server entry in
    let same = next_state_on_disk server entry ∙ sym (next_calm server.state entry) in (
      step_calm server entry next legal.0,
      omega arith,
      subst (λ s. IsLegalFrom s 0 (map calm entries)) same (legal_calm next entry.told.after entries legal.2),
    )

-- a legal history goes on: each of its parts is legal, the second from where the first ends
pub on_disk_goes_on : (server : Server) (faults : ℕ) (front back : List Entry)
    → IsLegalOnDisk server faults (front ++ back)
    ↔ (IsLegalOnDisk server faults front
    × IsLegalOnDisk (after_on_disk server front) (faults_after faults front) back)
unfolding IsLegalOnDisk
on_disk_goes_on server faults [] back = ((λ h. (tt, h)), (λ h. h.1))
on_disk_goes_on server faults (entry ∷ front) back =
    let rest = on_disk_goes_on (next_on_disk server entry) entry.told.after front back in (
      (λ h. let both = rest.0 h.2 in ((h.0, h.1, both.0), both.1)),
      (λ h. (h.0.0, h.0.1, rest.1 (h.0.2, h.1))),
    )

-- a legal history goes on with one more step
pub on_disk_more : (server after : Server) (faults : ℕ) (entries : List Entry) (entry : Entry)
    → IsLegalOnDisk server faults entries → IsStepOnDisk (after_on_disk server entries) entry after
    → faults_after faults entries ≤ entry.told.before → IsLegalOnDisk server faults (entries ++ entry ∷ [])
unfolding IsLegalOnDisk
on_disk_more server after faults entries entry legal step risen =
    let last : IsStepOnDisk (after_on_disk server entries) entry (next_on_disk (after_on_disk server entries) entry) =
    record { in_range = step.in_range; told = step.told; answer = step.answer; leads = refl } in
    (on_disk_goes_on server faults entries (entry ∷ [])).1 (legal, (last, risen, tt))

-- ---- what holds behind a step

pub step_keeps : (server after : Server) (entry : Entry) → IsBetweenTurns server.state
    → IsStepOnDisk server entry after → IsBetweenTurns after.state
step_keeps server after entry ready step =
    rw (step.leads, next_state_on_disk server entry, ← next_calm server.state entry)
    (next_keeps server.state (calm entry) ready (step_calm server entry after step))

pub step_within : (server after : Server) (entry : Entry) → server.state.kept.next ≤ greatest_next
    → IsStepOnDisk server entry after → after.state.kept.next ≤ greatest_next
unfolding IsLegalFrom
step_within server after entry within step =
    rw (step.leads, next_state_on_disk server entry, ← next_calm server.state entry)
    (beginnings_within server.state 0 (calm entry ∷ []) [] within
    (step_calm server entry after step, omega arith, tt))

-- ---- what holds behind each front

-- a history in two parts, told without a disk, is legal
pub front_calm : (server : Server) (faults : ℕ) (front back : List Entry) → IsLegalOnDisk server faults (front ++ back)
    → IsLegalFrom server.state 0 (map calm front ++ map calm back)
front_calm server faults front back legal =
    subst (λ all. IsLegalFrom server.state 0 all) (map-append calm front back)
    (legal_calm server faults (front ++ back) legal)

-- the state behind a front, told without a disk
pub front_state : (server : Server) (front : List Entry)
    → (after_on_disk server front).state ≡ state_after server.state (map calm front)
front_state server front = states_agree server front ∙ sym (state_calm server.state front)

pub fronts_keep : (server : Server) (faults : ℕ) (front back : List Entry) → IsBetweenTurns server.state
    → IsLegalOnDisk server faults (front ++ back) → IsBetweenTurns (after_on_disk server front).state
fronts_keep server faults front back ready legal =
    rw (front_state server front)
    (beginnings_keep server.state 0 (map calm front) (map calm back) ready
    (front_calm server faults front back legal))

pub fronts_within : (server : Server) (faults : ℕ) (front back : List Entry)
    → server.state.kept.next ≤ greatest_next → IsLegalOnDisk server faults (front ++ back)
    → (after_on_disk server front).state.kept.next ≤ greatest_next
fronts_within server faults front back within legal =
    rw (front_state server front)
    (beginnings_within server.state 0 (map calm front) (map calm back) within
    (front_calm server faults front back legal))
