-- A talk that goes on: nothing, a piece, a line, the last line, one step behind another, and the end.
use Rattle.std.proofs.Common.{◌≡◌, ◌≢◌, ℕ, true, false, ◌||◌, List, [], ◌∷◌, ◌++◌, Option, None, Some, if◌then◌else◌, refl, sym, ◌∙◌, ap, subst, inl, inr, append_assoc}
use Rattle.std.proofs.lemmas.Bool.{false≢true}
use Rattle.std.proofs.lemmas.List.{append-nil}
use Rattle.fk_frame.specs.declared.line_reader.Line.{Line}
use Rattle.fk_frame.specs.declared.line_reader.Line.TheVariants.{Whole, TooLong}
use Rattle.fk_frame.specs.Lines.{lines_of}
use Rattle.fk_frame.specs.Reading.{HasLongLine, IsFirstLine}
use Rattle.fk_model.specs.declared.gate.Gate.{Gate}
use Rattle.fk_model.specs.declared.item.Item.{Item}
use Rattle.fk_model.specs.Script.{AreItemsFrom, AreItemsOf, IsOver, IsScript, ends_talk, has_end, speaker_after, talk_from, too_long}
use Rattle.fk_talk.specs.declared.standing.Standing.{Standing}
use Rattle.fk_talk.specs.declared.standing.Standing.TheVariants.{Nobody, Somebody, Over}
use Rattle.fk_talk.specs.Advance.{Advances, AreDueFrom, IsIdle, ends_from}
use Rattle.fk_talk.specs.Hearing.{standing_of}

-- ---- steps

-- nothing happens
pub stays : (gate : Gate) (standing : Standing) (bytes : List ℕ) → Advances gate standing bytes [] standing bytes
stays gate standing bytes = record { gives = λ more others are. are; comes = λ more. refl }

-- one step and then another
pub joined : {gate : Gate} {from mid to : Standing} {bytes at_hand rest : List ℕ} {items more_items : List Item}
    → Advances gate from bytes items mid at_hand → Advances gate mid at_hand more_items to rest
    → Advances gate from bytes (items ++ more_items) to rest
joined {gate = gate} {from = from} {bytes = bytes} {items = items} {more_items = more_items} one other = record {
  gives = λ more others are.
      subst (AreDueFrom gate from (lines_of (bytes ++ more))) (sym (append_assoc items more_items others))
      (one.gives more (more_items ++ others) (other.gives more others are));
  comes = λ more. one.comes more ∙ other.comes more;
}

-- a piece is fed: the bytes at hand are more, and so is the rest
pub fed : {gate : Gate} {from to : Standing} {bytes rest : List ℕ} {items : List Item} (piece : List ℕ)
    → Advances gate from bytes items to rest → Advances gate from (bytes ++ piece) items to (rest ++ piece)
fed {gate = gate} {from = from} {to = to} {bytes = bytes} {rest = rest} {items = items} piece before = record {
  gives = λ more others are.
      subst (λ all. AreDueFrom gate from (lines_of all) (items ++ others)) (sym (append_assoc bytes piece more))
      (before.gives (piece ++ more) others
      (subst (λ all. AreDueFrom gate to (lines_of all) others) (append_assoc rest piece more) are));
  comes = λ more.
      ap (λ all. ends_from gate from (lines_of all)) (append_assoc bytes piece more)
      ∙ before.comes (piece ++ more)
      ∙ sym (ap (λ all. ends_from gate to (lines_of all)) (append_assoc rest piece more));
}

-- ---- who was let in, as a standing

due_to : (gate : Gate) (speaker : Option (List ℕ)) (lines : List Line) (items : List Item)
    → AreItemsFrom gate speaker (talk_from gate speaker lines) items
    → AreDueFrom gate (standing_of speaker) lines items
due_to gate None lines items are = are
due_to gate (Some wid) lines items are = are

is_due : (gate : Gate) (speaker : Option (List ℕ)) (lines : List Line) (items : List Item)
    → AreDueFrom gate (standing_of speaker) lines items
    → AreItemsFrom gate speaker (talk_from gate speaker lines) items
is_due gate None lines items are = are
is_due gate (Some wid) lines items are = are

ends_from-standing : (gate : Gate) (speaker : Option (List ℕ)) (lines : List Line)
    → ends_from gate (standing_of speaker) lines ≡ has_end gate speaker lines
ends_from-standing gate None lines = refl
ends_from-standing gate (Some wid) lines = refl

-- ---- a line that doesn't end the talk

line_gives : (gate : Gate) (speaker : Option (List ℕ)) (line : Line) (lines : List Line) (items others : List Item)
    → ends_talk gate speaker line ≡ false → AreItemsOf gate speaker line items
    → AreItemsFrom gate (speaker_after gate speaker line)
    (talk_from gate (speaker_after gate speaker line) lines) others
    → AreItemsFrom gate speaker (talk_from gate speaker (line ∷ lines)) (items ++ others)
line_gives gate speaker line lines items others going given are =
    let behind = talk_from gate (speaker_after gate speaker line) lines in
    subst (λ ends. AreItemsFrom gate speaker (line ∷ (if ends then [] else behind)) (items ++ others))
    (sym going) (items, others, given, are, refl)

pub by_line : (gate : Gate) (speaker : Option (List ℕ)) (bytes : List ℕ) (line : Line) (items : List Item)
    (rest : List ℕ) → ends_talk gate speaker line ≡ false → AreItemsOf gate speaker line items
    → ((more : List ℕ) → lines_of (bytes ++ more) ≡ line ∷ lines_of (rest ++ more))
    → Advances gate (standing_of speaker) bytes items (standing_of (speaker_after gate speaker line)) rest
by_line gate speaker bytes line items rest going given cut =
    let after = speaker_after gate speaker line in
    record {
      gives = λ more others are.
          subst (λ lines. AreDueFrom gate (standing_of speaker) lines (items ++ others)) (sym (cut more))
          (due_to gate speaker (line ∷ lines_of (rest ++ more)) (items ++ others)
          (line_gives gate speaker line (lines_of (rest ++ more)) items others going given
          (is_due gate after (lines_of (rest ++ more)) others are)));
      comes = λ more.
          ap (ends_from gate (standing_of speaker)) (cut more)
          ∙ ends_from-standing gate speaker (line ∷ lines_of (rest ++ more))
          ∙ ap (λ ends. ends || has_end gate after (lines_of (rest ++ more))) going
          ∙ sym (ends_from-standing gate after (lines_of (rest ++ more)));
    }

-- the first line is whole, and the talk goes on behind it
pub by_whole_line : (gate : Gate) (speaker : Option (List ℕ)) (bytes line : List ℕ) (items : List Item)
    (rest : List ℕ) → IsFirstLine bytes line rest → ends_talk gate speaker (Whole line) ≡ false
    → AreItemsOf gate speaker (Whole line) items
    → Advances gate (standing_of speaker) bytes items (standing_of (speaker_after gate speaker (Whole line))) rest
by_whole_line gate speaker bytes line items rest is going given =
    by_line gate speaker bytes (Whole line) items rest going given is.lines

-- ---- a line that ends it

last_gives : (gate : Gate) (speaker : Option (List ℕ)) (line : Line) (behind : List Line) (items others : List Item)
    → ends_talk gate speaker line ≡ true → AreItemsOf gate speaker line items → others ≡ []
    → AreItemsFrom gate speaker (talk_from gate speaker (line ∷ behind)) (items ++ others)
last_gives gate speaker line behind items others ends given none =
    let rest = talk_from gate (speaker_after gate speaker line) behind in
    subst (λ ends. AreItemsFrom gate speaker (line ∷ (if ends then [] else rest)) (items ++ others))
    (sym ends) (items, others, given, none, refl)

pub by_last_line : (gate : Gate) (speaker : Option (List ℕ)) (bytes : List ℕ) (line : Line) (items : List Item)
    (rest : List ℕ) → ends_talk gate speaker line ≡ true → AreItemsOf gate speaker line items
    → ((more : List ℕ) → (behind : List Line) × (lines_of (bytes ++ more) ≡ line ∷ behind))
    → Advances gate (standing_of speaker) bytes items Over rest
by_last_line gate speaker bytes line items rest ends given cut = record {
  gives = λ more others none.
      subst (λ lines. AreDueFrom gate (standing_of speaker) lines (items ++ others)) (sym (cut more).1)
      (due_to gate speaker (line ∷ (cut more).0) (items ++ others)
      (last_gives gate speaker line (cut more).0 items others ends given none));
  comes = λ more.
      ap (ends_from gate (standing_of speaker)) (cut more).1
      ∙ ends_from-standing gate speaker (line ∷ (cut more).0)
      ∙ ap (λ ends. ends || has_end gate (speaker_after gate speaker line) (cut more).0) ends;
}

-- the first line is whole, and ends the talk
pub by_whole_last_line : (gate : Gate) (speaker : Option (List ℕ)) (bytes line : List ℕ) (items : List Item)
    (rest left : List ℕ) → IsFirstLine bytes line rest → ends_talk gate speaker (Whole line) ≡ true
    → AreItemsOf gate speaker (Whole line) items → Advances gate (standing_of speaker) bytes items Over left
by_whole_last_line gate speaker bytes line items rest left is ends given =
    by_last_line gate speaker bytes (Whole line) items left ends given
    (λ more. (lines_of (rest ++ more), is.lines more))

-- the first line is too long
long_ends : (gate : Gate) (speaker : Option (List ℕ)) → ends_talk gate speaker TooLong ≡ true
unfolding ends_talk
long_ends gate None = refl
long_ends gate (Some wid) = refl

long_gives : (gate : Gate) (speaker : Option (List ℕ)) → AreItemsOf gate speaker TooLong (too_long ∷ [])
unfolding AreItemsOf
long_gives gate None = refl
long_gives gate (Some wid) = refl

pub by_long_line : (gate : Gate) (speaker : Option (List ℕ)) (bytes rest left : List ℕ) → HasLongLine bytes rest
    → Advances gate (standing_of speaker) bytes (too_long ∷ []) Over left
by_long_line gate speaker bytes rest left long =
    by_last_line gate speaker bytes TooLong (too_long ∷ []) left (long_ends gate speaker) (long_gives gate speaker)
    long.lines

-- ---- the end

-- what was given begins a script of what was taken, and the rest of it is what is left gives
pub begins_script : (gate : Gate) (taken : List ℕ) (items others : List Item) (standing : Standing) (rest : List ℕ)
    → Advances gate Nobody taken items standing rest → AreDueFrom gate standing (lines_of rest) others
    → IsScript gate taken (items ++ others)
begins_script gate taken items others standing rest all are =
    subst (λ bytes. IsScript gate bytes (items ++ others)) (append-nil taken)
    (all.gives [] others
    (subst (λ bytes. AreDueFrom gate standing (lines_of bytes) others) (sym (append-nil rest)) are))

none_given : (gate : Gate) (standing : Standing) → AreDueFrom gate standing [] []
none_given gate Nobody = refl
none_given gate (Somebody wid) = refl
none_given gate Over = refl

-- where no line is left, nothing more is given
pub idle_gives : (gate : Gate) (standing : Standing) (rest : List ℕ) → IsIdle standing rest
    → AreDueFrom gate standing (lines_of rest) []
idle_gives gate standing rest (inl over) =
    subst (λ now. AreDueFrom gate now (lines_of rest) []) (sym over) refl
idle_gives gate standing rest (inr none) =
    subst (λ lines. AreDueFrom gate standing lines []) (sym none) (none_given gate standing)

-- where no line is left, what was given is a script of what was taken
pub script_is : (gate : Gate) (taken : List ℕ) (items : List Item) (standing : Standing) (rest : List ℕ)
    → Advances gate Nobody taken items standing rest → IsIdle standing rest → IsScript gate taken items
script_is gate taken items standing rest all idle =
    subst (IsScript gate taken) (append-nil items)
    (begins_script gate taken items [] standing rest all (idle_gives gate standing rest idle))

-- whether the lines of what was taken end the talk
ends_as : (gate : Gate) (taken : List ℕ) (items : List Item) (standing : Standing) (rest : List ℕ)
    → Advances gate Nobody taken items standing rest
    → has_end gate None (lines_of taken) ≡ ends_from gate standing (lines_of rest)
ends_as gate taken items standing rest all =
    ap (λ bytes. has_end gate None (lines_of bytes)) (sym (append-nil taken))
    ∙ all.comes []
    ∙ ap (λ bytes. ends_from gate standing (lines_of bytes)) (append-nil rest)

-- the talk has ended where it is over
pub over_is : (gate : Gate) (taken : List ℕ) (items : List Item) (rest : List ℕ)
    → Advances gate Nobody taken items Over rest → IsOver gate taken
over_is gate taken items rest all = ends_as gate taken items Over rest all

none_ends : (gate : Gate) (standing : Standing) → standing ≢ Over → ends_from gate standing [] ≡ false
none_ends gate Nobody going = refl
none_ends gate (Somebody wid) going = refl
none_ends gate Over going = absurd (going refl)

-- and nowhere else
pub not_over : (gate : Gate) (taken : List ℕ) (items : List Item) (standing : Standing) (rest : List ℕ)
    → Advances gate Nobody taken items standing rest → IsIdle standing rest → standing ≢ Over
    → ¬ IsOver gate taken
not_over gate taken items standing rest all (inl over) going ended = going over
not_over gate taken items standing rest all (inr none) going ended =
    false≢true
    (sym (ends_as gate taken items standing rest all ∙ ap (ends_from gate standing) none ∙ none_ends gate standing going)
    ∙ ended)
