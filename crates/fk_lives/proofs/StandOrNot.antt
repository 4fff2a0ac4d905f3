-- Files stand for a state, or they have a first damage.
use Rattle.std.proofs.Common.{◌≡◌, ◌⊎◌, inl, inr, refl, sym, ap, subst, ◌∙◌, arith, ℕ, zero, suc, ◌+◌, ◌<◌, ◌≤◌, List, [], ◌∷◌, ◌++◌, length, take, drop, length-append}
use Rattle.std.specs.Prelude.{None, slice_index}
use Rattle.std.proofs.lemmas.Bool.{cases_eq}
use Rattle.std.proofs.lemmas.List.{append_cancel_left, length-take, take-append-drop}
use Rattle.fk_job.specs.Spellings.{AreBytes}
use Rattle.fk_journal.specs.declared.fault.Damage.{Damage}
use Rattle.fk_journal.specs.declared.fault.File.TheVariants.{A, B}
use Rattle.fk_journal.specs.Limits.{greatest_number}
use Rattle.fk_journal.specs.Pieces.{open_gate, opened, IsClosedAfter, IsClosedAt}
use Rattle.fk_model.specs.declared.move_.Move.{Move}
use Rattle.fk_model.specs.State.{KeptState, empty, untold}
use Rattle.fk_model.specs.Changes.{after_moves}
use Rattle.fk_moves.specs.Spelling.{moves_bytes}
use Rattle.fk_lives.specs.declared.header.Header.{Header}
use Rattle.fk_lives.specs.Files.{magic, version, Contents, IsBlank, IsGeneration, front_of, moves_in, number_in}
use Rattle.fk_lives.specs.Standing.{Stands}
use Rattle.fk_lives.specs.Damages.{HasGeneration, HasBase, HasHeader, IsGoodUpTo, IsDamagedFileAt, IsFirstDamage}
use Rattle.fk_lives.proofs.Choices.{IsKnown, known_le, known_lt, known_bytes, known_both}
use Rattle.fk_lives.proofs.Fronts.{with_piece, front_more}
use Rattle.fk_lives.proofs.Onward.{told_first, good_first, good_more, good_stands}
use Rattle.fk_lives.proofs.ReadOrNot.{known_number, known_any, found_snapshot}
use Rattle.fk_lives.proofs.PieceOrNot.{found_next}

-- ---- a blank file, and a closed gate

known_closed : (front rest : List ℕ) → IsKnown (IsClosedAfter front (front ++ rest))
known_closed front [] = inr (λ (gate, rest, closed, is).
    omega (arith, ap length is, length-append front [], length-append front (gate ∷ rest)))
known_closed front (gate ∷ rest) = elim (cases_eq gate open_gate) [
  | inl same ↦
      inr (λ (other, others, closed, is).
      let behind : gate ∷ rest ≡ other ∷ others = append_cancel_left front (gate ∷ rest) (other ∷ others) is in
      closed (ap (λ (xs : List ℕ). slice_index xs 0) (sym behind) ∙ same))
  | inr closed ↦ inl (gate, rest, closed, refl)
]

known_gate : (contents : Contents) (file : List ℕ) → IsGoodUpTo contents file
    → IsKnown (IsClosedAt (length (front_of contents)) file)
known_gate contents file good =
    let n = length (front_of contents) in
    subst (λ (f : List ℕ). IsKnown (IsClosedAfter (take n file) f)) (take-append-drop n file)
    (known_closed (take n file) (drop n file))

known_blank : (file : List ℕ) → IsKnown (IsBlank file)
known_blank file = elim (known_le (length file) 1) [
  | inl short ↦ inl (inl short)
  | inr long ↦
      elim (cases_eq (slice_index file 0) open_gate) [
        | inl same ↦ inr (λ blank. elim blank [ inl short ↦ long short | inr closed ↦ closed same ])
        | inr closed ↦ inl (inr closed)
      ]
]

-- ---- which of the two

-- a pair of files stands for a state, or has a first damage
abbrev pub StandOrAreDamaged : List ℕ → List ℕ → Type 0
StandOrAreDamaged a b = ((kept : KeptState) × Stands a b kept) ⊎ ((damage : Damage) × IsFirstDamage a b damage)

damaged : (a b : List ℕ) (at : ℕ) → IsBlank b → ¬ IsBlank a → IsDamagedFileAt at a → StandOrAreDamaged a b
damaged a b at blank some here = inr (record { file = A; at = at }, inr (refl, blank, some, here))

front_within : (contents : Contents) (file : List ℕ) → IsGoodUpTo contents file
    → length (front_of contents) ≤ length file
front_within contents file good =
    omega (arith, ap length good.front, length-take (length (front_of contents)) file)

front_longer : (contents : Contents) (moves : List Move)
    → length (front_of contents) < length (front_of (with_piece contents moves))
front_longer contents moves =
    omega (
      arith,
      ap length (front_more contents moves),
      length-append (front_of contents) (opened (number_in contents) (moves_bytes moves)),
    )

behind_front : (fuel : ℕ) (contents : Contents) (a b : List ℕ) → AreBytes a → IsBlank b → ¬ IsBlank a
    → IsGoodUpTo contents a → length a < length (front_of contents) + fuel → StandOrAreDamaged a b
behind_front zero contents a b all blank some good short =
    absurd (omega (arith, short, front_within contents a good))
behind_front (suc fuel) contents a b all blank some good short =
    elim (known_gate contents a good) [
      | inl closed ↦ inl (after_moves untold (moves_in contents), good_stands contents a b good closed blank)
      | inr not_closed ↦
          elim (found_next contents (length (front_of contents)) a all) [
            | inl (moves, next) ↦
                behind_front fuel (with_piece contents moves) a b all blank some
                (good_more contents moves a good next) (omega (arith, short, front_longer contents moves))
            | inr none ↦
                damaged a b (length (front_of contents)) blank some (inr (inr (record {
                  contents = contents;
                  good = good;
                  here = refl;
                  not_closed = not_closed;
                  no_piece = none;
                })))
          ]
    ]

behind_the_header : (header : Header) (a b : List ℕ) → AreBytes a → IsBlank b → ¬ IsBlank a → HasHeader header a
    → StandOrAreDamaged a b
behind_the_header header a b all blank some has =
    elim (found_snapshot header.length a all) [
      | inl (moves, is) ↦
          behind_front (length a + 1) (told_first header moves) a b all blank some
          (good_first header moves a some has is) (omega arith)
      | inr none ↦ damaged a b 34 blank some (inr (inl (refl, record { header = header; right = has; none = none })))
    ]

known_generation : (file : List ℕ) → IsKnown (HasGeneration file)
known_generation file =
    known_number 10 file IsGeneration (λ n. known_both (known_lt 0 n) (known_le n greatest_number))

known_base : (file : List ℕ) → IsKnown (HasBase file)
known_base file = known_number 18 file (λ n. n ≤ greatest_number) (λ n. known_le n greatest_number)

behind_gate : (a b : List ℕ) → AreBytes a → IsBlank b → ¬ IsBlank a → StandOrAreDamaged a b
behind_gate a b all blank some =
    elim (known_bytes (take 8 (drop 1 a)) magic) [
      | inr other ↦ damaged a b 1 blank some (inl (inl (refl, other)))
      | inl known ↦
          elim (known_bytes (take 1 (drop 9 a)) (version ∷ [])) [
            | inr other ↦ damaged a b 9 blank some (inl (inr (inl (refl, known, other))))
            | inl versioned ↦
                elim (known_generation a) [
                  | inr other ↦ damaged a b 10 blank some (inl (inr (inr (inl (refl, known, versioned, other)))))
                  | inl generation ↦
                      elim (known_base a) [
                        | inr other ↦
                            damaged a b 18 blank some
                            (inl (inr (inr (inr (inl (refl, known, versioned, generation, other))))))
                        | inl base ↦
                            elim (known_any 26 a) [
                              | inr other ↦
                                  damaged a b 26 blank some
                                  (inl (inr (inr (inr (inr (refl, known, versioned, generation, base, other))))))
                              | inl count ↦
                                  behind_the_header (record {
                                    generation = generation.0;
                                    base = base.0;
                                    length = count.0;
                                  }) a b all blank some (record {
                                    known = known;
                                    versioned = versioned;
                                    generation = (generation.1, generation.2);
                                    base = (base.1, base.2);
                                    snapshot = count.1;
                                  })
                            ]
                      ]
                ]
          ]
    ]

pub stand_or_are_damaged : (a b : List ℕ) → AreBytes a → StandOrAreDamaged a b
stand_or_are_damaged a b all = elim (known_blank b) [
  | inr some ↦ inr (record { file = B; at = 0 }, inl (refl, some))
  | inl blank ↦
      elim (known_blank a) [
        | inl none ↦ inl (empty, record { told = None; tells = (none, blank); leads = refl })
        | inr some ↦ behind_gate a b all blank some
      ]
]
