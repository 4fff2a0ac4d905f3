-- Members as pieces of their text: a name as it is spelled, what it stands for, and a value.
use Rattle.std.proofs.Common.{◌≡◌, ◌&&◌, ◌||◌, not, ℕ, Bool, true, false, if◌then◌else◌, List, [], ◌∷◌, ◌++◌, Option, None, Some, codes, bytes_eq, map, filter, find, reverse, option_map, slice_range, refl, sym, ap, subst, ◌∙◌}
use Rattle.std.proofs.lemmas.Bool.{false≢true}
use Rattle.std.proofs.lemmas.List.{reverse-append}
use Rattle.std.proofs.lemmas.List.Folds.{find-append}
use Rattle.std.proofs.lemmas.Slice.Eq.{bytes_eq-Decides}
use Rattle.std.specs.List.{AllByRecursion, join_with_byte, list_any}
use Rattle.std.specs.Option.{option_or}
use Rattle.fk_json.specs.declared.member.Member.{Member}
use Rattle.fk_job.specs.Members.{body_of, counting_members, is_handed_on, is_named, sent_value, value_of}

pub record Piece : Type 0 where
  pub spelled : List ℕ
  pub name : List ℕ
  pub value : List ℕ

abbrev pub piece_text : Piece → List ℕ
piece_text piece = piece.spelled ++ codes ":" ++ piece.value

-- pieces with commas between them
abbrev pub joined : List Piece → List ℕ
joined pieces = join_with_byte 44 (map piece_text pieces)

-- the piece of a member
abbrev pub piece_in : List ℕ → Member → Piece
piece_in text member = record {
  spelled = slice_range text member.name_from member.name_to;
  name = member.name;
  value = sent_value text member;
}

abbrev pub pieces_in : List ℕ → List Member → List Piece
pieces_in text members = map (piece_in text) members

abbrev pub is_called : List ℕ → Piece → Bool
is_called name piece = bytes_eq piece.name name

-- the value of the last piece of a name
abbrev pub last_value : List ℕ → List Piece → Option (List ℕ)
last_value name [] = None
last_value name (piece ∷ pieces) =
    option_or (last_value name pieces) (if bytes_eq piece.name name then Some piece.value else None)

-- ---- one of two options

pub or_none : {A : Type 0} (o : Option A) → option_or o None ≡ o
or_none None = refl
or_none (Some x) = refl

or_some : {A : Type 0} (o other : Option A) (x : A) → option_or (option_or o (Some x)) other ≡ option_or o (Some x)
or_some None other x = refl
or_some (Some y) other x = refl

or_given : {A : Type 0} (o other : Option A) → option_or o other ≡ o → option_or (option_or o None) other ≡ option_or o None
or_given None other e = e
or_given (Some y) other e = refl

pub or_assoc : {A : Type 0} (o p q : Option A) → option_or (option_or o p) q ≡ option_or o (option_or p q)
or_assoc None p q = refl
or_assoc (Some x) p q = refl

map_or : {A B : Type 0} (f : A → B) (o p : Option A) → option_map f (option_or o p) ≡ option_or (option_map f o) (option_map f p)
map_or f None p = refl
map_or f (Some x) p = refl

map_if : {A B : Type 0} (f : A → B) (x : A) (t : Bool)
    → option_map f (if t then Some x else None) ≡ (if t then Some (f x) else None)
map_if f x true = refl
map_if f x false = refl

-- ---- the value of a name

pub value_last : (text : List ℕ) (members : List Member) (name : List ℕ)
    → value_of text members name ≡ last_value name (pieces_in text members)
value_last text [] name = refl
value_last text (member ∷ members) name =
    ap (λ l. option_map (sent_value text) (find (is_named name) l)) (reverse-append (member ∷ []) members)
    ∙ ap (option_map (sent_value text)) (find-append (is_named name) (reverse members) (member ∷ []))
    ∙ map_or (sent_value text) (find (is_named name) (reverse members)) (find (is_named name) (member ∷ []))
    ∙ ap (λ o. option_or o (option_map (sent_value text) (find (is_named name) (member ∷ [])))) (value_last text members name)
    ∙ ap (λ o. option_or (last_value name (pieces_in text members)) o)
    (map_if (sent_value text) member (bytes_eq member.name name))

-- ---- the pieces that count and are handed on

abbrev pub counting : List Piece → List Piece
counting [] = []
counting (piece ∷ pieces) =
    if list_any (is_called piece.name) pieces then counting pieces else piece ∷ counting pieces

abbrev pub is_kept : Piece → Bool
is_kept piece =
    not (is_called (codes "queue") piece) && not (is_called (codes "enqueued_at") piece)
    && not (is_called (codes "failure") piece)
    && not (is_called (codes "created_at") piece && bytes_eq piece.value (codes "null"))

abbrev pub kept : List Piece → List Piece
kept pieces = filter is_kept (counting pieces)

any_map : {A B : Type 0} (f : A → B) (test : B → Bool) (xs : List A)
    → list_any test (map f xs) ≡ list_any (λ x. test (f x)) xs
any_map f test [] = refl
any_map f test (x ∷ xs) = ap (λ t. test (f x) || t) (any_map f test xs)

map_cond : {A B : Type 0} (f : A → B) (xs ys : List A) (t : Bool)
    → map f (if t then xs else ys) ≡ (if t then map f xs else map f ys)
map_cond f xs ys true = refl
map_cond f xs ys false = refl

filter_map_is : {A B : Type 0} (f : A → B) (test : B → Bool) (xs : List A)
    → filter test (map f xs) ≡ map f (filter (λ x. test (f x)) xs)
filter_map_is f test [] = refl
filter_map_is f test (x ∷ xs) =
    ap (λ l. if test (f x) then f x ∷ l else l) (filter_map_is f test xs)
    ∙ sym (map_cond f (x ∷ filter (λ y. test (f y)) xs) (filter (λ y. test (f y)) xs) (test (f x)))

map_twice : {A B C : Type 0} (f : A → B) (g : B → C) (xs : List A) → map g (map f xs) ≡ map (λ x. g (f x)) xs
map_twice f g [] = refl
map_twice f g (x ∷ xs) = ap (λ l. g (f x) ∷ l) (map_twice f g xs)

counting_map : (text : List ℕ) (members : List Member)
    → counting (pieces_in text members) ≡ pieces_in text (counting_members members)
counting_map text [] = refl
counting_map text (member ∷ members) =
    ap (λ t. if t then counting (pieces_in text members) else piece_in text member ∷ counting (pieces_in text members))
    (any_map (piece_in text) (is_called member.name) members)
    ∙ ap (λ l. if list_any (is_named member.name) members then l else piece_in text member ∷ l) (counting_map text members)
    ∙ sym (map_cond (piece_in text) (counting_members members) (member ∷ counting_members members)
    (list_any (is_named member.name) members))

-- the body is the pieces that count and are handed on
pub body_joined : (text : List ℕ) (members : List Member)
    → body_of text members ≡ joined (kept (pieces_in text members))
body_joined text members =
    sym (ap (join_with_byte 44)
    (ap (map piece_text) (ap (filter is_kept) (counting_map text members)
    ∙ filter_map_is (piece_in text) is_kept (counting_members members))
    ∙ map_twice (piece_in text) piece_text (filter (is_handed_on text) (counting_members members))))

-- ---- the last values of what is kept

behind_false : (x y : Bool) → x ≡ false → (x || y) ≡ true → y ≡ true
behind_false true y f e = absurd (false≢true (sym f))
behind_false false y f e = e

last_step : (o other : Option (List ℕ)) (value : List ℕ) (t : Bool) → (t ≡ false → option_or o other ≡ o)
    → option_or (option_or o (if t then Some value else None)) other ≡ option_or o (if t then Some value else None)
last_step o other value true h = or_some o other value
last_step o other value false h = or_given o other (h refl)

any_last : (name : List ℕ) (pieces : List Piece) (other : Option (List ℕ)) → list_any (is_called name) pieces ≡ true
    → option_or (last_value name pieces) other ≡ last_value name pieces
any_last name [] other e = absurd (false≢true e)
any_last name (piece ∷ pieces) other e =
    last_step (last_value name pieces) other piece.value (bytes_eq piece.name name)
    (λ f. any_last name pieces other (behind_false (bytes_eq piece.name name) (list_any (is_called name) pieces) f e))

hidden : (name : List ℕ) (piece : Piece) (pieces : List Piece) → list_any (is_called piece.name) pieces ≡ true
    → (t : Bool) → bytes_eq piece.name name ≡ t
    → option_or (last_value name pieces) (if t then Some piece.value else None) ≡ last_value name pieces
hidden name piece pieces e false is = or_none (last_value name pieces)
hidden name piece pieces e true is =
    any_last name pieces (Some piece.value)
    (subst (λ n. list_any (is_called n) pieces ≡ true) ((bytes_eq-Decides piece.name name).0 is) e)

counted : (name : List ℕ) (piece : Piece) (pieces : List Piece)
    → last_value name (counting pieces) ≡ last_value name pieces
    → (t : Bool) → list_any (is_called piece.name) pieces ≡ t
    → last_value name (if t then counting pieces else piece ∷ counting pieces) ≡ last_value name (piece ∷ pieces)
counted name piece pieces same true e = same ∙ sym (hidden name piece pieces e (bytes_eq piece.name name) refl)
counted name piece pieces same false e =
    ap (λ o. option_or o (if bytes_eq piece.name name then Some piece.value else None)) same

last_counting : (name : List ℕ) (pieces : List Piece) → last_value name (counting pieces) ≡ last_value name pieces
last_counting name [] = refl
last_counting name (piece ∷ pieces) =
    counted name piece pieces (last_counting name pieces) (list_any (is_called piece.name) pieces) refl

-- a test that each piece of the name passes
abbrev pub Passes : List ℕ → (Piece → Bool) → Type 0
Passes name test = (piece : Piece) → piece.name ≡ name → test piece ≡ true

left_out : (name : List ℕ) (test : Piece → Bool) (piece : Piece) (o : Option (List ℕ)) → Passes name test
    → test piece ≡ false → (t : Bool) → bytes_eq piece.name name ≡ t
    → o ≡ option_or o (if t then Some piece.value else None)
left_out name test piece o passes f false is = sym (or_none o)
left_out name test piece o passes f true is =
    absurd (false≢true (sym f ∙ passes piece ((bytes_eq-Decides piece.name name).0 is)))

filtered : (name : List ℕ) (test : Piece → Bool) (piece : Piece) (pieces : List Piece) → Passes name test
    → last_value name (filter test pieces) ≡ last_value name pieces → (t : Bool) → test piece ≡ t
    → last_value name (if t then piece ∷ filter test pieces else filter test pieces)
    ≡ last_value name (piece ∷ pieces)
filtered name test piece pieces passes same true e =
    ap (λ o. option_or o (if bytes_eq piece.name name then Some piece.value else None)) same
filtered name test piece pieces passes same false e =
    same ∙ left_out name test piece (last_value name pieces) passes e (bytes_eq piece.name name) refl

last_filter : (name : List ℕ) (test : Piece → Bool) (pieces : List Piece) → Passes name test
    → last_value name (filter test pieces) ≡ last_value name pieces
last_filter name test [] passes = refl
last_filter name test (piece ∷ pieces) passes =
    filtered name test piece pieces passes (last_filter name test pieces passes) (test piece) refl

pub last_kept : (name : List ℕ) (pieces : List Piece) → Passes name is_kept
    → last_value name (kept pieces) ≡ last_value name pieces
last_kept name pieces passes = last_filter name is_kept (counting pieces) passes ∙ last_counting name pieces

-- ---- pieces behind others

pub last_append : (name : List ℕ) (pieces others : List Piece)
    → last_value name (pieces ++ others) ≡ option_or (last_value name others) (last_value name pieces)
last_append name [] others = sym (or_none (last_value name others))
last_append name (piece ∷ pieces) others =
    ap (λ o. option_or o (if bytes_eq piece.name name then Some piece.value else None)) (last_append name pieces others)
    ∙ or_assoc (last_value name others) (last_value name pieces)
    (if bytes_eq piece.name name then Some piece.value else None)

-- ---- what holds of each piece

if_all : (P : Piece → Type 0) (piece : Piece) (pieces : List Piece) (t : Bool) → P piece → AllByRecursion P pieces
    → AllByRecursion P (if t then piece ∷ pieces else pieces)
if_all P piece pieces true p each = (p, each)
if_all P piece pieces false p each = each

if_none : (P : Piece → Type 0) (piece : Piece) (pieces : List Piece) (t : Bool) → P piece → AllByRecursion P pieces
    → AllByRecursion P (if t then pieces else piece ∷ pieces)
if_none P piece pieces true p each = each
if_none P piece pieces false p each = (p, each)

all_filter : (P : Piece → Type 0) (test : Piece → Bool) (pieces : List Piece) → AllByRecursion P pieces
    → AllByRecursion P (filter test pieces)
all_filter P test [] each = tt
all_filter P test (piece ∷ pieces) each =
    if_all P piece (filter test pieces) (test piece) each.0 (all_filter P test pieces each.1)

all_counting : (P : Piece → Type 0) (pieces : List Piece) → AllByRecursion P pieces
    → AllByRecursion P (counting pieces)
all_counting P [] each = tt
all_counting P (piece ∷ pieces) each =
    if_none P piece (counting pieces) (list_any (is_called piece.name) pieces) each.0 (all_counting P pieces each.1)

pub all_kept : (P : Piece → Type 0) (pieces : List Piece) → AllByRecursion P pieces → AllByRecursion P (kept pieces)
all_kept P pieces each = all_filter P is_kept (counting pieces) (all_counting P pieces each)
