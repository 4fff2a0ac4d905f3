-- Files from their front on: what a file tells, with one piece more, and what it stands for.
use Rattle.std.proofs.Common.{◌≡◌, inl, inr, refl, sym, ap, subst, ◌∙◌, arith, ℕ, ◌+◌, ◌≤◌, List, [], ◌∷◌, ◌++◌, length, map, append_assoc, length-append}
use Rattle.std.specs.Prelude.{Some, slice_index}
use Rattle.std.proofs.lemmas.List.{append-nil, map-append, length-map}
use Rattle.std.proofs.lemmas.List.Elements.{All-append, All-cons, All-nil}
use Rattle.std.proofs.lemmas.Grind.{flat_map-append}
use Rattle.fk_journal.specs.Limits.{greatest_number}
use Rattle.fk_journal.specs.Pieces.{closed_gate, opened, spelled, HasLength, IsClosedAfter}
use Rattle.fk_journal.proofs.Spelled.{spelled-append}
use Rattle.fk_model.specs.declared.move_.Move.{Move}
use Rattle.fk_model.specs.declared.move_.Move.TheVariants.{Totals}
use Rattle.fk_model.specs.State.{KeptState, empty, untold}
use Rattle.fk_model.specs.Changes.{after_move, after_moves, FitInTurn, Lead, IsTotals, EndsWithTotals}
use Rattle.fk_model.proofs.Leading.{after_both, fit_both}
use Rattle.fk_moves.specs.Spelling.{word_bytes, moves_bytes}
use Rattle.fk_lives.specs.Files.{Contents, AreContents, IsFileOf, IsBlank, head_of, front_of, moves_in, number_in, new_contents, new_file}
use Rattle.fk_lives.specs.Standing.{Stands}

-- ---- one piece more

-- what a file tells, and behind it a piece of these moves
abbrev pub with_piece : Contents → List Move → Contents
with_piece contents moves = record contents { pieces = contents.pieces ++ moves ∷ [] }

-- the bytes of all pieces
abbrev pub bodies : Contents → List (List ℕ)
bodies contents = map moves_bytes contents.pieces

bodies_more : (contents : Contents) (moves : List Move)
    → bodies (with_piece contents moves) ≡ bodies contents ++ moves_bytes moves ∷ []
bodies_more contents moves = map-append moves_bytes contents.pieces (moves ∷ [])

-- the front goes on with the piece
pub front_more : (contents : Contents) (moves : List Move)
    → front_of (with_piece contents moves) ≡ front_of contents ++ opened (number_in contents) (moves_bytes moves)
front_more contents moves =
    let base = contents.base in
    let bytes = moves_bytes moves in
    let count : length (bodies contents) ≡ length contents.pieces = length-map contents.pieces moves_bytes in
    ap (λ ps. head_of contents ++ spelled base ps) (bodies_more contents moves)
    ∙ ap (λ xs. head_of contents ++ xs) (spelled-append base (bodies contents) bytes)
    ∙ ap (λ n. head_of contents ++ (spelled base (bodies contents) ++ opened (base + n + 1) bytes)) count
    ∙ sym (append_assoc (head_of contents) (spelled base (bodies contents)) (opened (number_in contents) bytes))

-- the next number is one more
pub number_more : (contents : Contents) (moves : List Move)
    → number_in (with_piece contents moves) ≡ number_in contents + 1
number_more contents moves = omega (arith, length-append contents.pieces (moves ∷ []))

-- the moves of the piece come behind the others
pub moves_more : (contents : Contents) (moves : List Move)
    → moves_in (with_piece contents moves) ≡ moves_in contents ++ moves
moves_more contents moves =
    flat_map-append (λ (one : List Move). one) (contents.snapshot ∷ contents.pieces) (moves ∷ [])
    ∙ ap (λ (more : List Move). moves_in contents ++ more) (append-nil moves)

-- and the file may tell it, if there is a number for it
pub contents_more : (contents : Contents) (moves : List Move) → AreContents contents → EndsWithTotals moves
    → HasLength (moves_bytes moves) → number_in contents ≤ greatest_number → AreContents (with_piece contents moves)
contents_more contents moves are ends short within = record {
  generation = are.generation;
  numbers = omega (arith, within, length-append contents.pieces (moves ∷ []));
  snapshot = are.snapshot;
  pieces = rw (bodies_more contents moves)
      (All-append HasLength (bodies contents) (moves_bytes moves ∷ []) are.pieces
      (All-cons HasLength (moves_bytes moves) [] short (All-nil HasLength)));
  lists = All-append EndsWithTotals (contents.snapshot ∷ contents.pieces) (moves ∷ []) are.lists
      (All-cons EndsWithTotals moves [] ends (All-nil EndsWithTotals));
}

-- ---- a file and what it tells

-- a file that is closed behind the front of what it may tell tells it
pub file_of : (contents : Contents) (file : List ℕ) → AreContents contents
    → IsClosedAfter (front_of contents) file → IsFileOf contents file
file_of contents file are (gate, rest, closed, is) = record {
  are = are;
  rest = spelled contents.base (bodies contents) ++ gate ∷ rest;
  whole = is ∙ append_assoc (head_of contents) (spelled contents.base (bodies contents)) (gate ∷ rest);
  pieces = record {
    whole = (gate, rest, closed, refl);
    lengths = are.pieces;
    numbers = omega (arith, are.numbers, length-map contents.pieces moves_bytes);
  };
}

-- and a file is closed behind the front of what it tells
pub closed_of : (contents : Contents) (file : List ℕ) → IsFileOf contents file
    → IsClosedAfter (front_of contents) file
closed_of contents file is =
    let behind = is.pieces.whole in (
      behind.0,
      behind.1,
      behind.2,
      is.whole ∙ ap (λ (xs : List ℕ). head_of contents ++ xs) behind.3
          ∙ sym (append_assoc (head_of contents) (spelled contents.base (bodies contents)) (behind.0 ∷ behind.1)),
    )

-- a file that tells something isn't blank
pub not_blank : (contents : Contents) (file : List ℕ) → IsFileOf contents file → ¬ IsBlank file
not_blank contents file is (inl short) = omega (arith, short, ap length is.whole)
not_blank contents file is (inr closed) = closed (ap (λ (xs : List ℕ). slice_index xs 0) is.whole)

-- ---- what files stand for

pub stands_file : (contents : Contents) (a b : List ℕ) (kept : KeptState) → IsFileOf contents a → IsBlank b
    → Lead untold (moves_in contents) kept → Stands a b kept
stands_file contents a b kept is blank lead = record {
  told = Some contents;
  tells = (is, blank);
  leads = lead;
}

-- moves that fit behind those that lead somewhere lead on
pub lead_more : (from kept : KeptState) (moves more : List Move) → Lead from moves kept → FitInTurn kept more
    → Lead from (moves ++ more) (after_moves kept more)
lead_more from kept moves more lead fit = record {
  fit = fit_both from moves more lead.fit (subst (λ (k : KeptState). FitInTurn k more) lead.come fit);
  come = ap (λ (k : KeptState). after_moves k more) lead.come ∙ sym (after_both from moves more);
}

-- ---- a new file

pub new_are : AreContents new_contents
unfolding word_bytes
new_are = record {
  generation = (omega arith, omega arith);
  numbers = omega arith;
  snapshot = omega arith;
  pieces = All-nil HasLength;
  lists = All-cons EndsWithTotals new_contents.snapshot [] (record {
    others = [];
    last = Totals 1 0 0;
    whole = refl;
    totals = tt;
    none = All-nil (λ move. ¬ IsTotals move);
  }) (All-nil EndsWithTotals);
}

-- it tells that there is no row, and 1 as the next number
pub new_is : IsFileOf new_contents new_file
new_is = file_of new_contents new_file new_are (closed_gate, [], (λ same. omega (arith, same)), refl)

new_leads : Lead untold (moves_in new_contents) empty
unfolding FitInTurn after_move
new_leads = record {
  fit = (
    record {
      spelled = (omega arith, omega arith, omega arith);
      allowed = record {
        within = omega arith;
        risen = omega arith;
        above = record { tickets = All-nil _; ranks = All-nil _ };
      };
    },
    tt,
  );
  come = refl;
}

pub new_stands : (b : List ℕ) → IsBlank b → Stands new_file b empty
new_stands b blank = stands_file new_contents new_file b empty new_is blank new_leads
