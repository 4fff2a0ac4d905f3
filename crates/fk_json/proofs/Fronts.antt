-- What is left of a value, of a name, or behind an item, when its first byte is taken.
use Rattle.std.proofs.Common.{◌≡◌, ◌≢◌, inl, inr, ◌↔◌, ℕ, ◌+◌, Bool, true, false, List, [], ◌∷◌, ◌++◌, length, refl, sym, ap, subst, ◌∙◌, arith}
use Rattle.std.proofs.lemmas.Bool.{false≢true}
use Rattle.fk_json.specs.Json.{is_space}
use Rattle.fk_json.specs.TokenRests.{follows}
use Rattle.fk_json.specs.Left.{AfterLeft, ByteThen, ColonLeft, Frame, ItemsLeft, NameLeft, TailLeft, ValueLeft, WithinLeft}
use Rattle.fk_json.specs.declared.member.Member.{Member}
use Rattle.fk_json.proofs.Parts.{head_of, tail_of}
use Rattle.fk_json.proofs.Spaces.{byte_nil, byte_on, spaced_nil, spaced_none}

-- a bracket closes
pub record Closing (close : ℕ) : Type 0 where
  pub other : close ≢ 44
  pub tight : is_space close ≡ false
  pub behind : follows close ≡ true

-- ---- behind an item

pub tail_comma : {I O : Type 0} (F : Frame I O) (at b : ℕ) (text : List ℕ) (found : List O)
    → Closing F.close → b ≡ 44
    → (TailLeft F at (b ∷ text) found) ↔ (ItemsLeft F (at + 1) text found)
tail_comma {I} {O} F at b text found closing is = (
  λ h. elim h as (λ _. ItemsLeft F (at + 1) text found) [
    | inl p ↦ absurd (closing.other (sym (head_of p.2) ∙ is))
    | inr p ↦ (byte_on (λ place rest. ItemsLeft F place rest found) 44 at b text is).0 p
  ],
  λ h. inr ((byte_on (λ place rest. ItemsLeft F place rest found) 44 at b text is).1 h),
)

pub tail_close : {I O : Type 0} (F : Frame I O) (at b : ℕ) (text : List ℕ) (found : List O)
    → Closing F.close → b ≡ F.close
    → (TailLeft F at (b ∷ text) found) ↔ (F.Behind (at + 1) text found)
tail_close F at b text found closing is = (
  λ h. elim h as (λ _. F.Behind (at + 1) text found) [
    | inl p ↦ (byte_on (λ place rest. F.Behind place rest found) F.close at b text is).0 p
    | inr p ↦ absurd (closing.other (sym is ∙ head_of p.2))
  ],
  λ h. inl ((byte_on (λ place rest. F.Behind place rest found) F.close at b text is).1 h),
)

pub tail_else : {I O : Type 0} (F : Frame I O) (at b : ℕ) (text : List ℕ) (found : List O)
    → b ≢ 44 → b ≢ F.close → ¬ TailLeft F at (b ∷ text) found
tail_else F at b text found no_comma no_close h =
    elim h as (λ _. ⊥) [ inl p ↦ no_close (head_of p.2) | inr p ↦ no_comma (head_of p.2) ]

pub tail_space : {I O : Type 0} (F : Frame I O) (at b : ℕ) (text : List ℕ) (found : List O)
    → Closing F.close → is_space b ≡ true → ¬ TailLeft F at (b ∷ text) found
tail_space F at b text found closing space =
    tail_else F at b text found
    (λ e. false≢true (subst (λ x. is_space x ≡ true) e space))
    (λ e. false≢true (sym closing.tight ∙ subst (λ x. is_space x ≡ true) e space))

pub tail_empty : {I O : Type 0} (F : Frame I O) (at : ℕ) (found : List O) → ¬ TailLeft F at [] found
tail_empty F at found h =
    elim h as (λ _. ⊥) [
      | inl p ↦ byte_nil (λ place rest. F.Behind place rest found) F.close at p
      | inr p ↦ byte_nil (λ place rest. ItemsLeft F place rest found) 44 at p
    ]

space_follows : (b : ℕ) → is_space b ≡ true → follows b ≡ true
space_follows b space = rw space refl

comma_follows : (b : ℕ) → b ≡ 44 → follows b ≡ true
comma_follows b e = rw e refl

tail_follows : {I O : Type 0} (F : Frame I O) (at b : ℕ) (text : List ℕ) (found : List O)
    → Closing F.close → TailLeft F at (b ∷ text) found → follows b ≡ true
tail_follows F at b text found closing h =
    elim h as (λ _. follows b ≡ true) [
      | inl p ↦ subst (λ x. follows x ≡ true) (sym (head_of p.2)) closing.behind
      | inr p ↦ comma_follows b (head_of p.2)
    ]

after_cases : {I O : Type 0} (F : Frame I O) (at b : ℕ) (text : List ℕ) (found : List O) (space : Bool)
    → is_space b ≡ space → Closing F.close → AfterLeft F at (b ∷ text) found → follows b ≡ true
after_cases F at b text found true is closing h = space_follows b is
after_cases F at b text found false is closing h =
    tail_follows F at b text found closing
    ((spaced_none (λ place rest. TailLeft F place rest found) at b text is).0 h)

pub after_follows : {I O : Type 0} (F : Frame I O) (at b : ℕ) (text : List ℕ) (found : List O)
    → Closing F.close → AfterLeft F at (b ∷ text) found → follows b ≡ true
after_follows F at b text found closing h = after_cases F at b text found (is_space b) refl closing h

pub after_empty : {I O : Type 0} (F : Frame I O) (at : ℕ) (found : List O) → ¬ AfterLeft F at [] found
after_empty F at found h =
    tail_empty F at found ((spaced_nil (λ place rest. TailLeft F place rest found) at).0 h)

-- ---- of a value

-- the item is found, and what stands behind it
abbrev pub Ends : {I O : Type 0} → Frame I O → (ℕ → I) → List ℕ → List O → List O → ℕ → Type 0
Ends F item behind found others place =
    AfterLeft F place behind others × (found ≡ F.note (item place) others)

ends_at : {I O : Type 0} (F : Frame I O) (item : ℕ → I) (behind : List ℕ) (found others : List O)
    (one other : ℕ) → one ≡ other → Ends F item behind found others one
    → Ends F item behind found others other
ends_at F item behind found others one other e h = subst (Ends F item behind found others) e h

within_behind : {I O : Type 0} (F : Frame I O) (L M : List ℕ → Type 0) (item : ℕ → I) (at b : ℕ)
    (text : List ℕ) (found : List O) → ((rest : List ℕ) → L (b ∷ rest) → M rest)
    → (L [] → (place : ℕ) (others : List O) → ¬ AfterLeft F place (b ∷ text) others)
    → (rest behind : List ℕ) (others : List O) → L rest
    → Ends F item behind found others (at + length rest) → b ∷ text ≡ rest ++ behind
    → WithinLeft F M item (at + 1) text found
within_behind F L M item at b text found goes none [] behind others l ends e =
    absurd (none l (at + 0) others (subst (λ x. AfterLeft F (at + 0) x others) (sym e) ends.0))
within_behind F L M item at b text found goes none (c ∷ rest) behind others l ends e =
    let end = ends_at F item behind found others (at + length (c ∷ rest)) (at + 1 + length rest)
    (omega arith) ends in
    (rest, behind, others, goes rest (subst (λ x. L (x ∷ rest)) (sym (head_of e)) l), end.0, end.1, tail_of e)

pub within_on : {I O : Type 0} (F : Frame I O) (L M : List ℕ → Type 0) (item : ℕ → I) (at b : ℕ)
    (text : List ℕ) (found : List O) → ((rest : List ℕ) → (L (b ∷ rest)) ↔ (M rest))
    → (L [] → (place : ℕ) (others : List O) → ¬ AfterLeft F place (b ∷ text) others)
    → (WithinLeft F L item at (b ∷ text) found) ↔ (WithinLeft F M item (at + 1) text found)
within_on F L M item at b text found goes none = (
  λ h. within_behind F L M item at b text found (λ rest. (goes rest).0) none h.0 h.1 h.2 h.3 (h.4, h.5) h.6,
  λ h.
      let end = ends_at F item h.1 found h.2 (at + 1 + length h.0) (at + length (b ∷ h.0))
      (omega arith) (h.4, h.5) in
      (b ∷ h.0, h.1, h.2, (goes h.0).1 h.3, end.0, end.1, ap (λ x. b ∷ x) h.6),
)

-- a value that has ended: the item is found, and what stands behind it is left
abbrev pub EndedLeft : {I O : Type 0} → Frame I O → (ℕ → I) → ℕ → List ℕ → List O → Type 0
EndedLeft {I} {O} F item at text found = (others : List O) × Ends F item text found others at

within_over : {I O : Type 0} (F : Frame I O) (L : List ℕ → Type 0) (item : ℕ → I) (at b : ℕ)
    (text : List ℕ) (found : List O) → ((rest : List ℕ) → ¬ L (b ∷ rest))
    → (rest behind : List ℕ) (others : List O) → L rest
    → Ends F item behind found others (at + length rest) → b ∷ text ≡ rest ++ behind
    → L [] × EndedLeft F item at (b ∷ text) found
within_over F L item at b text found none [] behind others l ends e = (
  l,
  (
    others,
    subst (λ x. Ends F item x found others at) (sym e)
        (ends_at F item behind found others (at + 0) at (omega arith) ends),
  ),
)
within_over F L item at b text found none (c ∷ rest) behind others l ends e =
    absurd (none rest (subst (λ x. L (x ∷ rest)) (sym (head_of e)) l))

pub within_ended : {I O : Type 0} (F : Frame I O) (L : List ℕ → Type 0) (item : ℕ → I) (at b : ℕ)
    (text : List ℕ) (found : List O) → L [] → ((rest : List ℕ) → ¬ L (b ∷ rest))
    → (WithinLeft F L item at (b ∷ text) found) ↔ (EndedLeft F item at (b ∷ text) found)
within_ended F L item at b text found may none = (
  λ h. (within_over F L item at b text found none h.0 h.1 h.2 h.3 (h.4, h.5) h.6).1,
  λ h.
      let end = ends_at F item (b ∷ text) found h.0 at (at + 0) (omega arith) h.1 in
      ([], b ∷ text, h.0, may, end.0, end.1, refl),
)

pub within_stops : {I O : Type 0} (F : Frame I O) (L : List ℕ → Type 0) (item : ℕ → I) (at b : ℕ)
    (text : List ℕ) (found : List O) → ¬ L [] → ((rest : List ℕ) → ¬ L (b ∷ rest))
    → ¬ WithinLeft F L item at (b ∷ text) found
within_stops F L item at b text found unended none h =
    unended (within_over F L item at b text found none h.0 h.1 h.2 h.3 (h.4, h.5) h.6).0

nothing_behind : (rest behind : List ℕ) → [] ≡ rest ++ behind → behind ≡ []
nothing_behind [] behind e = sym e
nothing_behind (c ∷ rest) behind e = absurd (omega (arith, ap (λ x. length x) e))

pub within_empty : {I O : Type 0} (F : Frame I O) (L : List ℕ → Type 0) (item : ℕ → I) (at : ℕ)
    (found : List O) → ¬ WithinLeft F L item at [] found
within_empty F L item at found h =
    after_empty F (at + length h.0) h.2
    (subst (λ x. AfterLeft F (at + length h.0) x h.2) (nothing_behind h.0 h.1 h.6) h.4)

-- ---- of a name

-- the name has ended, and what stands behind it is left
abbrev pub NamedLeft : {O : Type 0} → Frame Member O → (List ℕ → Type 0)
    → List ℕ → ℕ → List ℕ → List O → ℕ → Type 0
NamedLeft F IsInner name name_from behind found place =
    ColonLeft F IsInner name name_from place place behind found

named_at : {O : Type 0} (F : Frame Member O) (IsInner : List ℕ → Type 0) (name : List ℕ)
    (name_from : ℕ) (behind : List ℕ) (found : List O) (one other : ℕ) → one ≡ other
    → NamedLeft F IsInner name name_from behind found one
    → NamedLeft F IsInner name name_from behind found other
named_at F IsInner name name_from behind found one other e h =
    subst (NamedLeft F IsInner name name_from behind found) e h

name_behind : {O : Type 0} (F : Frame Member O) (IsInner : List ℕ → Type 0)
    (L M : List ℕ → List ℕ → Type 0) (name_from at b : ℕ) (text : List ℕ) (found : List O)
    → ((rest name : List ℕ) → L (b ∷ rest) name → M rest name) → ((name : List ℕ) → ¬ L [] name)
    → (rest behind name : List ℕ) → L rest name
    → NamedLeft F IsInner name name_from behind found (at + length rest) → b ∷ text ≡ rest ++ behind
    → NameLeft F IsInner M name_from (at + 1) text found
name_behind F IsInner L M name_from at b text found goes unended [] behind name l named e =
    absurd (unended name l)
name_behind F IsInner L M name_from at b text found goes unended (c ∷ rest) behind name l named e = (
  rest,
  behind,
  name,
  goes rest name (subst (λ x. L (x ∷ rest) name) (sym (head_of e)) l),
  named_at F IsInner name name_from behind found (at + length (c ∷ rest)) (at + 1 + length rest) (omega arith) named,
  tail_of e,
)

pub name_on : {O : Type 0} (F : Frame Member O) (IsInner : List ℕ → Type 0)
    (L M : List ℕ → List ℕ → Type 0) (name_from at b : ℕ) (text : List ℕ) (found : List O)
    → ((rest name : List ℕ) → (L (b ∷ rest) name) ↔ (M rest name)) → ((name : List ℕ) → ¬ L [] name)
    → (NameLeft F IsInner L name_from at (b ∷ text) found)
    ↔ (NameLeft F IsInner M name_from (at + 1) text found)
name_on F IsInner L M name_from at b text found goes unended = (
  λ h. name_behind F IsInner L M name_from at b text found (λ rest name. (goes rest name).0) unended
      h.0 h.1 h.2 h.3 h.4 h.5,
  λ h. (
    b ∷ h.0,
    h.1,
    h.2,
    (goes h.0 h.2).1 h.3,
    named_at F IsInner h.2 name_from h.1 found (at + 1 + length h.0) (at + length (b ∷ h.0)) (omega arith) h.4,
    ap (λ x. b ∷ x) h.5,
  ),
)

-- the name that ended here, and what is left behind it
abbrev pub EndedName : {O : Type 0} → Frame Member O → (List ℕ → Type 0) → (List ℕ → List ℕ → Type 0)
    → ℕ → ℕ → List ℕ → List O → Type 0
EndedName F IsInner L name_from at text found =
    (name : List ℕ) × L [] name × NamedLeft F IsInner name name_from text found at

name_over : {O : Type 0} (F : Frame Member O) (IsInner : List ℕ → Type 0)
    (L : List ℕ → List ℕ → Type 0) (name_from at b : ℕ) (text : List ℕ) (found : List O)
    → ((rest name : List ℕ) → ¬ L (b ∷ rest) name) → (rest behind name : List ℕ) → L rest name
    → NamedLeft F IsInner name name_from behind found (at + length rest) → b ∷ text ≡ rest ++ behind
    → EndedName F IsInner L name_from at (b ∷ text) found
name_over F IsInner L name_from at b text found none [] behind name l named e = (
  name,
  l,
  subst (λ x. NamedLeft F IsInner name name_from x found at) (sym e)
      (named_at F IsInner name name_from behind found (at + 0) at (omega arith) named),
)
name_over F IsInner L name_from at b text found none (c ∷ rest) behind name l named e =
    absurd (none rest name (subst (λ x. L (x ∷ rest) name) (sym (head_of e)) l))

pub name_ended : {O : Type 0} (F : Frame Member O) (IsInner : List ℕ → Type 0)
    (L : List ℕ → List ℕ → Type 0) (name_from at b : ℕ) (text : List ℕ) (found : List O)
    → ((rest name : List ℕ) → ¬ L (b ∷ rest) name)
    → (NameLeft F IsInner L name_from at (b ∷ text) found)
    ↔ (EndedName F IsInner L name_from at (b ∷ text) found)
name_ended F IsInner L name_from at b text found none = (
  λ h. name_over F IsInner L name_from at b text found none h.0 h.1 h.2 h.3 h.4 h.5,
  λ h. (
    [],
    b ∷ text,
    h.0,
    h.1,
    named_at F IsInner h.0 name_from (b ∷ text) found at (at + 0) (omega arith) h.2,
    refl,
  ),
)

pub colon_empty : {O : Type 0} (F : Frame Member O) (IsInner : List ℕ → Type 0) (name : List ℕ)
    (name_from name_to at : ℕ) (found : List O)
    → ¬ ColonLeft F IsInner name name_from name_to at [] found
colon_empty F IsInner name name_from name_to at found h =
    let valued = λ (place : ℕ) (rest : List ℕ). ValueLeft F IsInner
    (λ from to. record { name = name; name_from = name_from; name_to = name_to; from = from; to = to })
    place rest found in
    byte_nil valued 58 at ((spaced_nil (ByteThen 58 valued) at).0 h)

pub name_empty : {O : Type 0} (F : Frame Member O) (IsInner : List ℕ → Type 0)
    (L : List ℕ → List ℕ → Type 0) (name_from at : ℕ) (found : List O)
    → ¬ NameLeft F IsInner L name_from at [] found
name_empty F IsInner L name_from at found h =
    colon_empty F IsInner h.2 name_from (at + length h.0) (at + length h.0) found
    (subst (λ x. ColonLeft F IsInner h.2 name_from (at + length h.0) (at + length h.0) x found)
    (nothing_behind h.0 h.1 h.5) h.4)
