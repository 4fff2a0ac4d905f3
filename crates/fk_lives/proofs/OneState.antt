-- Files stand for one kept state, and have one number and one size.
use Rattle.std.proofs.Common.{◌≡◌, refl, sym, ap, subst, ◌∙◌, arith, ℕ, ◌+◌, List, ◌∷◌, length, map}
use Rattle.std.specs.Prelude.{Option, None, Some}
use Rattle.std.proofs.lemmas.List.{length-map}
use Rattle.fk_journal.specs.Pieces.{HavePieces}
use Rattle.fk_model.specs.declared.move_.Move.{Move}
use Rattle.fk_model.specs.State.{KeptState, untold}
use Rattle.fk_model.specs.Changes.{after_moves, Lead}
use Rattle.fk_moves.specs.Spelling.{moves_bytes}
use Rattle.fk_lives.specs.declared.header.Header.{Header}
use Rattle.fk_lives.specs.Files.{Contents, IsFileOf, header_of, front_of, moves_in}
use Rattle.fk_lives.specs.Standing.{Tell, LeadsTo, Stands, HaveNumbers, number_of, size_of}
use Rattle.fk_lives.proofs.Fronts.{bodies, not_blank}
use Rattle.fk_lives.proofs.Headers.{one_head}
use Rattle.fk_lives.proofs.PieceLists.{one_list_of_pieces}
use Rattle.fk_lives.proofs.Good.{one_joined, spelled_each}

-- ---- the bytes of what one file tells

-- two that one file tells have the same bytes, each behind the other's
pub record HaveOneSpelling (one other : Contents) : Type 0 where
  pub header : header_of other ≡ header_of one
  pub lists : map moves_bytes (one.snapshot ∷ one.pieces) ≡ map moves_bytes (other.snapshot ∷ other.pieces)

pub one_spelling : (one other : Contents) (file : List ℕ) → IsFileOf one file → IsFileOf other file
    → HaveOneSpelling one other
one_spelling one other file is is_too =
    let head = one_head one other is.rest is_too.rest file is.are is_too.are is.whole is_too.whole in
    let base : one.base ≡ other.base = ap (λ (h : Header). h.base) (sym head.header) in
    let pieces : bodies other ≡ bodies one =
    one_list_of_pieces one.base (bodies one) (bodies other) is.rest is.pieces
    (subst (λ (rest : List ℕ). HavePieces one.base (bodies other) rest) (sym head.behind)
    (subst (λ (n : ℕ). HavePieces n (bodies other) is_too.rest) (sym base) is_too.pieces)) in
    record {
      header = head.header;
      lists = ap (λ (b : List ℕ). b ∷ bodies one) head.snapshot
          ∙ ap (λ (bs : List (List ℕ)). moves_bytes other.snapshot ∷ bs) (sym pieces);
    }

-- ---- what it leads to

one_told : (one other : Contents) (file : List ℕ) (kept another : KeptState) → IsFileOf one file → IsFileOf other file
    → Lead untold (moves_in one) kept → Lead untold (moves_in other) another → another ≡ kept
one_told one other file kept another is is_too lead lead_too =
    let same : moves_in other ≡ moves_in one =
    one_joined (one.snapshot ∷ one.pieces) (other.snapshot ∷ other.pieces)
    (spelled_each untold (moves_in one) lead.fit) (spelled_each untold (moves_in other) lead_too.fit)
    (one_spelling one other file is is_too).lists in
    lead_too.come ∙ ap (λ (moves : List Move). after_moves untold moves) same ∙ sym lead.come

one_state_told : (a b : List ℕ) (kept other : KeptState) (told told_too : Option Contents) → Tell a b told
    → Tell a b told_too → LeadsTo told kept → LeadsTo told_too other → other ≡ kept
one_state_told a b kept other None None blank blank_too is is_too = is_too ∙ sym is
one_state_told a b kept other None (Some contents) blank file is lead = absurd (not_blank contents a file.0 blank.0)
one_state_told a b kept other (Some contents) None file blank lead is = absurd (not_blank contents a file.0 blank.0)
one_state_told a b kept other (Some contents) (Some others) file file_too lead lead_too =
    one_told contents others a kept other file.0 file_too.0 lead lead_too

pub one_state : (a b : List ℕ) (kept other : KeptState) → Stands a b kept → Stands a b other → other ≡ kept
one_state a b kept other stands stands_too =
    one_state_told a b kept other stands.told stands_too.told stands.tells stands_too.tells stands.leads
    stands_too.leads

-- ---- its numbers

-- one number and one size
pub record HaveOneNumber (one other : Option Contents) : Type 0 where
  pub number : number_of other ≡ number_of one
  pub size : size_of other ≡ size_of one

one_count : (one other : Contents) → HaveOneSpelling one other → length other.pieces ≡ length one.pieces
one_count one other same =
    omega (
      arith,
      ap length same.lists,
      length-map one.pieces moves_bytes,
      length-map other.pieces moves_bytes,
    )

pub one_front : (one other : Contents) → HaveOneSpelling one other → front_of other ≡ front_of one
one_front one other same =
    let base : other.base ≡ one.base = ap (λ (h : Header). h.base) same.header in
    cc

numbers_told : (a b : List ℕ) (told told_too : Option Contents) → Tell a b told → Tell a b told_too
    → HaveOneNumber told told_too
numbers_told a b None None blank blank_too = record { number = refl; size = refl }
numbers_told a b None (Some contents) blank file = absurd (not_blank contents a file.0 blank.0)
numbers_told a b (Some contents) None file blank = absurd (not_blank contents a file.0 blank.0)
numbers_told a b (Some contents) (Some others) file file_too =
    let same = one_spelling contents others a file.0 file_too.0 in
    let base : others.base ≡ contents.base = ap (λ (h : Header). h.base) same.header in
    record {
      number = omega (arith, base, one_count contents others same);
      size = ap (λ (front : List ℕ). length front + 1) (one_front contents others same);
    }

pub one_number : (a b : List ℕ) (number size others most : ℕ) → HaveNumbers a b number size
    → HaveNumbers a b others most → others ≡ number
one_number a b number size others most have have_too =
    have_too.next ∙ (numbers_told a b have.told have_too.told have.tells have_too.tells).number ∙ sym have.next

pub one_size : (a b : List ℕ) (number size others most : ℕ) → HaveNumbers a b number size
    → HaveNumbers a b others most → most ≡ size
one_size a b number size others most have have_too =
    have_too.behind ∙ (numbers_told a b have.told have_too.told have.tells have_too.tells).size ∙ sym have.behind
