-- How a replay comes from one place of a file to the next.
use Rattle.std.proofs.Common.{◌≡◌, ap, sym, subst, ◌∙◌, inl, inr, arith, refl, ℕ, ◌+◌, ◌^◌, ◌<◌, ◌≤◌, List, ◌++◌, length, take, drop, Option, None, Some}
use Rattle.std.proofs.lemmas.Bool.{false≢true}
use Rattle.std.specs.Prelude.{is_some}
use Rattle.fk_journal.specs.declared.fault.Damage.{Damage}
use Rattle.fk_journal.specs.declared.fault.File.TheVariants.{A}
use Rattle.fk_journal.specs.Limits.{overhead}
use Rattle.fk_journal.specs.Pieces.{opened, BeginWith, IsDamagedAt}
use Rattle.fk_model.specs.State.{KeptState}
use Rattle.fk_model.proofs.Leading.{leads_well}
use Rattle.fk_lives.specs.Damages.{IsDamagedFileAt}
use Rattle.fk_lives.specs.Files.{snapshot_at}
use Rattle.fk_shelf.specs.ShelfState.{ShelfState}
use Rattle.fk_store.specs.StoreState.{IsWritten}
use Rattle.fk_store.specs.Replaying.{HasCome, IsDamageOf, IsMade, IsUnfit, left_of}
use Rattle.fk_store.proofs.Heads.{snapshot_written}
use Rattle.fk_store.proofs.Behind.{front_on, piece_written}
use Rattle.fk_store.proofs.Harms.{piece_unfit, piece_unread, snapshot_unfit}

-- ---- what a shelf says of one replay

-- of the snapshot
abbrev pub SaysSnapshot : {D : Type 0} → Type 0 → List ℕ → ShelfState D → ShelfState D → List ℕ → Type 0
SaysSnapshot told file before after bytes = (n : ℕ) → before.snapshot ≡ Some n →
    (after.snapshot ≡ None) × (after.at ≡ snapshot_at) × (length bytes ≡ n)
    × (after.live.place ≡ before.live.place) × (after.live.number ≡ before.live.number)
    × (after.live.done ≡ before.live.done)
    × (told → (snapshot_at + n ≤ length file) × (bytes ≡ take n (drop snapshot_at file))
    × (after.live.front ≡ before.live.front))

-- of a piece
abbrev pub SaysPiece : {D : Type 0} → Type 0 → List ℕ → ShelfState D → ShelfState D → List ℕ → Type 0
SaysPiece told file before after bytes = before.snapshot ≡ None →
    (after.snapshot ≡ None) × (after.at ≡ before.live.place)
    × (after.live.place ≡ before.live.place + overhead + length bytes)
    × (after.live.number ≡ before.live.number + 1) × (after.live.done ≡ before.live.done)
    × (told → BeginWith before.live.number bytes (drop before.live.place file)
    × (after.live.front ≡ before.live.front ++ opened before.live.number bytes))

-- and of both
pub record Says {D : Type 0} (told : Type 0) (file bytes : List ℕ) (before after : ShelfState D) : Type 0 where
  pub snapshot : SaysSnapshot told file before after bytes
  pub piece : SaysPiece told file before after bytes
  pub live : after.live.file ≡ before.live.file
  pub free : before.live.owed ≡ None → after.live.owed ≡ None

-- nothing is something
none_some : {X : Type 0} (found : Option X) (x : X) → found ≡ None → found ≡ Some x → ⊥
none_some found x none some = false≢true (ap is_some (sym none ∙ some))

-- ---- moves were made

come_first : {D : Type 0} (told : Type 0) (file bytes : List ℕ) (kept made : KeptState)
    (before after : ShelfState D) (count : ℕ) → before.snapshot ≡ Some count →
    HasCome told file kept before → Says told file bytes before after → IsMade bytes kept made →
    HasCome told file made after
come_first told file bytes kept made before after count is come says moves =
    let said = says.snapshot count is in
    let first = come.first count is in
    let read : told → take count (drop snapshot_at file) ≡ bytes = λ tells. sym (said.6 tells).1 in
    let front : told → after.live.front ≡ take after.live.place file = λ tells.
    (said.6 tells).2 ∙ come.front tells ∙ ap (λ n. take n file) (sym said.3) in
    record {
      live = says.live ∙ come.live;
      free = says.free come.free;
      front = front;
      well = leads_well kept made moves.moves come.well moves.leads moves.list;
      first = λ n some. absurd (none_some after.snapshot n said.0 some);
      later = λ none tells.
          subst (λ n. IsWritten after.live.front made n after.live.place) (sym said.4)
          (subst (λ p. IsWritten after.live.front made before.live.number p) (sym said.3)
          (subst (λ xs. IsWritten xs made before.live.number before.live.place) (sym (said.6 tells).2)
          (snapshot_written count before.live.number before.live.place file before.live.front made
          (first.1 tells) (come.front tells)
          (rw (read tells, ← first.0) moves))));
    }

come_next : {D : Type 0} (told : Type 0) (file bytes : List ℕ) (kept made : KeptState)
    (before after : ShelfState D) → before.snapshot ≡ None →
    HasCome told file kept before → Says told file bytes before after → IsMade bytes kept made →
    HasCome told file made after
come_next told file bytes kept made before after is come says moves =
    let said = says.piece is in
    record {
      live = says.live ∙ come.live;
      free = says.free come.free;
      front = λ tells.
          (said.5 tells).1
          ∙ front_on before.live.number before.live.place file before.live.front bytes (come.front tells)
          (said.5 tells).0
          ∙ ap (λ n. take n file) (sym said.2);
      well = leads_well kept made moves.moves come.well moves.leads moves.list;
      first = λ n some. absurd (none_some after.snapshot n said.0 some);
      later = λ none tells.
          subst (λ n. IsWritten after.live.front made n after.live.place) (sym said.3)
          (subst (λ p. IsWritten after.live.front made (before.live.number + 1) p) (sym said.2)
          (subst (λ xs. IsWritten xs made (before.live.number + 1) (before.live.place + overhead + length bytes))
          (sym (said.5 tells).1)
          (piece_written before.live.number before.live.place file before.live.front bytes kept made
          (come.later is tells) (said.5 tells).0 moves)));
    }

come_by : {D : Type 0} (told : Type 0) (file bytes : List ℕ) (kept made : KeptState)
    (before after : ShelfState D) (snapshot : Option ℕ) → before.snapshot ≡ snapshot →
    HasCome told file kept before → Says told file bytes before after → IsMade bytes kept made →
    HasCome told file made after
come_by told file bytes kept made before after None is come says moves =
    come_next told file bytes kept made before after is come says moves
come_by told file bytes kept made before after (Some count) is come says moves =
    come_first told file bytes kept made before after count is come says moves

-- the replay has come further
pub come_on : {D : Type 0} (told : Type 0) (file bytes : List ℕ) (kept made : KeptState)
    (before after : ShelfState D) → HasCome told file kept before → Says told file bytes before after →
    IsMade bytes kept made → HasCome told file made after
come_on told file bytes kept made before after come says moves =
    come_by told file bytes kept made before after before.snapshot refl come says moves

-- and less is left
less_by : {D : Type 0} (told : Type 0) (file bytes : List ℕ) (before after : ShelfState D)
    (snapshot : Option ℕ) → before.snapshot ≡ snapshot → Says told file bytes before after → after.at < 2 ^ 64 →
    left_of after < left_of before
less_by told file bytes before after None is says small =
    let said = says.piece is in rw (is, said.0) (omega (arith, said.1, said.2, small))
less_by told file bytes before after (Some count) is says small =
    let said = says.snapshot count is in rw (is, said.0) (omega (arith, said.3))

pub less_left : {D : Type 0} (told : Type 0) (file bytes : List ℕ) (before after : ShelfState D) →
    Says told file bytes before after → after.at < 2 ^ 64 → left_of after < left_of before
less_left told file bytes before after says small =
    less_by told file bytes before after before.snapshot refl says small

-- the closed gate wasn't reached
done_by : {D : Type 0} (told : Type 0) (file bytes : List ℕ) (before after : ShelfState D)
    (snapshot : Option ℕ) → before.snapshot ≡ snapshot → Says told file bytes before after →
    after.live.done ≡ before.live.done
done_by told file bytes before after None is says = (says.piece is).4
done_by told file bytes before after (Some count) is says = (says.snapshot count is).5

pub not_done : {D : Type 0} (told : Type 0) (file bytes : List ℕ) (before after : ShelfState D) →
    Says told file bytes before after → after.live.done ≡ before.live.done
not_done told file bytes before after says = done_by told file bytes before after before.snapshot refl says

-- ---- the end

-- what is read at the closed gate
pub record Ends {D : Type 0} (told : Type 0) (before after : ShelfState D) : Type 0 where
  pub none : (n : ℕ) → before.snapshot ≡ Some n → ⊥
  pub place : after.live.place ≡ before.live.place
  pub number : after.live.number ≡ before.live.number
  pub front : told → after.live.front ≡ before.live.front
  pub live : after.live.file ≡ before.live.file
  pub free : before.live.owed ≡ None → after.live.owed ≡ None

ends_by : {D : Type 0} (told : Type 0) (file : List ℕ) (kept : KeptState) (before after : ShelfState D)
    (snapshot : Option ℕ) → before.snapshot ≡ snapshot → HasCome told file kept before → after.snapshot ≡ None →
    Ends told before after → HasCome told file kept after
ends_by told file kept before after (Some n) is come over ends = absurd (ends.none n is)
ends_by told file kept before after None is come over ends = record {
  live = ends.live ∙ come.live;
  free = ends.free come.free;
  front = λ tells. ends.front tells ∙ come.front tells ∙ ap (λ n. take n file) (sym ends.place);
  well = come.well;
  first = λ n some. absurd (none_some after.snapshot n over some);
  later = λ none tells.
      subst (λ n. IsWritten after.live.front kept n after.live.place) (sym ends.number)
      (subst (λ p. IsWritten after.live.front kept before.live.number p) (sym ends.place)
      (subst (λ xs. IsWritten xs kept before.live.number before.live.place) (sym (ends.front tells))
      (come.later is tells)));
}

pub come_to_end : {D : Type 0} (told : Type 0) (file : List ℕ) (kept : KeptState) (before after : ShelfState D) →
    HasCome told file kept before → after.snapshot ≡ None → Ends told before after → HasCome told file kept after
come_to_end told file kept before after come over ends =
    ends_by told file kept before after before.snapshot refl come over ends

-- ---- damages

harm_at : (file : List ℕ) (damage : Damage) (at : ℕ) → damage ≡ record { file = A; at = at } →
    IsDamagedFileAt at file → IsDamageOf file damage
harm_at file damage at is harm =
    let place : damage.at ≡ at = ap (λ (d : Damage). d.at) is in
    (is ∙ ap (λ n. record { file = A; at = n }) (sym place), subst (λ n. IsDamagedFileAt n file) (sym place) harm)

unread_by : {D : Type 0} (told : Type 0) (file : List ℕ) (kept : KeptState) (shelf : ShelfState D) (damage : Damage)
    (snapshot : Option ℕ) → shelf.snapshot ≡ snapshot → HasCome told file kept shelf →
    ((n : ℕ) → shelf.snapshot ≡ Some n → ⊥) →
    (shelf.snapshot ≡ None → (damage ≡ record { file = shelf.live.file; at = shelf.live.place })
    × IsDamagedAt shelf.live.number shelf.live.place file) →
    told → IsDamageOf file damage
unread_by told file kept shelf damage (Some n) is come whole damaged tells = absurd (whole n is)
unread_by told file kept shelf damage None is come whole damaged tells =
    let said = damaged is in
    harm_at file damage shelf.live.place
    (said.0 ∙ ap (λ one. record { file = one; at = shelf.live.place }) come.live)
    (inr (inr (piece_unread shelf.live.number shelf.live.place file shelf.live.front kept
    (come.later is tells) (come.front tells) said.1)))

-- no piece stands at the gate that is due
pub unread : {D : Type 0} (told : Type 0) (file : List ℕ) (kept : KeptState) (shelf : ShelfState D) (damage : Damage) →
    HasCome told file kept shelf → ((n : ℕ) → shelf.snapshot ≡ Some n → ⊥) →
    (shelf.snapshot ≡ None → (damage ≡ record { file = shelf.live.file; at = shelf.live.place })
    × IsDamagedAt shelf.live.number shelf.live.place file) →
    told → IsDamageOf file damage
unread told file kept shelf damage come whole damaged tells =
    unread_by told file kept shelf damage shelf.snapshot refl come whole damaged tells

unfit_by : {D : Type 0} (told : Type 0) (file bytes : List ℕ) (kept : KeptState) (before after : ShelfState D)
    (damage : Damage) (snapshot : Option ℕ) → before.snapshot ≡ snapshot → HasCome told file kept before →
    Says told file bytes before after → damage ≡ record { file = after.live.file; at = after.at } →
    IsUnfit bytes kept → told → IsDamageOf file damage
unfit_by told file bytes kept before after damage None is come says at unfit tells =
    let said = says.piece is in
    harm_at file damage before.live.place
    (at ∙ ap (λ one. record { file = one; at = after.at }) (says.live ∙ come.live)
    ∙ ap (λ n. record { file = A; at = n }) said.1)
    (inr (inr (piece_unfit before.live.number before.live.place file before.live.front bytes kept
    (come.later is tells) (come.front tells) (said.5 tells).0 unfit)))
unfit_by told file bytes kept before after damage (Some n) is come says at unfit tells =
    let said = says.snapshot n is in
    let first = come.first n is in
    harm_at file damage snapshot_at
    (at ∙ ap (λ one. record { file = one; at = after.at }) (says.live ∙ come.live)
    ∙ ap (λ m. record { file = A; at = m }) said.1)
    (inr (inl (
      refl,
      snapshot_unfit n before.live.number before.live.place file (first.1 tells)
          (rw (← (said.6 tells).1, ← first.0) unfit),
    )))

-- what stands there spells no moves that fit
pub unfit : {D : Type 0} (told : Type 0) (file bytes : List ℕ) (kept : KeptState) (before after : ShelfState D)
    (damage : Damage) → HasCome told file kept before → Says told file bytes before after →
    damage ≡ record { file = after.live.file; at = after.at } → IsUnfit bytes kept → told → IsDamageOf file damage
unfit told file bytes kept before after damage come says at not_fit tells =
    unfit_by told file bytes kept before after damage before.snapshot refl come says at not_fit tells
