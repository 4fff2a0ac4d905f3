-- Members that are put with a value of their name alone: their order doesn't matter, nor how often one is put.
use Rattle.std.proofs.Common.{◌≡◌, ◌∙◌, sym, ap, refl, subst, ℕ, zero, suc, List, [], ◌∷◌, Ordering, Less, Equal, Greater, nat_cmp, arith}
use Rattle.std.specs.Prelude.{All, Contains, fold}
use Rattle.std.specs.Cmp.Lexicographic.{slice_cmp}
use Rattle.std.specs.Ordering.{ordering_reverse, is_eq}
use Rattle.std.proofs.lemmas.Cmp.{nat_list_cmp_total, tied_itself, tied_back, alike_right}
use Rattle.std.proofs.lemmas.Map.Text.{is_eq-slice_cmp}
use Rattle.std.proofs.lemmas.Slice.Eq.{bytes_eq-Decides}
use Rattle.std.proofs.lemmas.List.Elements.{All-head, All-tail}
use Rattle.serde_json.specs.Data.{Data, Members, no_members, member, put}

abbrev order : List ℕ → List ℕ → Ordering
order one other = slice_cmp nat_cmp one other

-- ---- one name twice

same_name : (name : List ℕ) → order name name ≡ Equal
same_name name = tied_itself nat_list_cmp_total name

again_step : (a name : List ℕ) (x value : Data) (given : Members) (is : Ordering) → order a name ≡ is
    → put a x (put a x given) ≡ put a x given
    → put a x (put a x (member name value given)) ≡ put a x (member name value given)
again_step a name x value given Less e rest = rw e (rw (same_name a) refl)
again_step a name x value given Equal e rest = rw e (rw e refl)
again_step a name x value given Greater e rest = rw e (rw e (ap (member name value) rest))

put_again : (a : List ℕ) (x : Data) (given : Members) → put a x (put a x given) ≡ put a x given
put_again a x no_members = rw (same_name a) refl
put_again a x (member name value given) =
    again_step a name x value given (order a name) refl (put_again a x given)

-- ---- two names in either order

behind : (a b : List ℕ) → order a b ≡ Less → order b a ≡ Greater
behind a b e = nat_list_cmp_total.antisymm b a ∙ ap ordering_reverse e

swap_step : (a b name : List ℕ) (x y value : Data) (given : Members) (one other : Ordering)
    → order a b ≡ Less → order a name ≡ one → order b name ≡ other
    → put a x (put b y given) ≡ put b y (put a x given)
    → put a x (put b y (member name value given)) ≡ put b y (put a x (member name value given))
swap_step a b name x y value given Less Less ahead e f rest =
    rw (e, f) (rw (ahead, behind a b ahead) refl)
swap_step a b name x y value given Less Equal ahead e f rest =
    rw (e, f) (rw (e, behind a b ahead) refl)
swap_step a b name x y value given Less Greater ahead e f rest =
    rw (e, f) (rw (e, behind a b ahead) refl)
swap_step a b name x y value given Equal Less ahead e f rest =
    let there : order a b ≡ order name b = nat_list_cmp_total.congr a name b e in
    absurd (cc (sym ahead ∙ there ∙ behind b name f))
swap_step a b name x y value given Equal Equal ahead e f rest =
    let there : order a b ≡ order name b = nat_list_cmp_total.congr a name b e in
    absurd (cc (sym ahead ∙ there ∙ tied_back nat_list_cmp_total b name f))
swap_step a b name x y value given Equal Greater ahead e f rest = rw (e, f) (rw e refl)
swap_step a b name x y value given Greater Less ahead e f rest =
    absurd (cc (sym e ∙ nat_list_cmp_total.trans a b name ahead f))
swap_step a b name x y value given Greater Equal ahead e f rest =
    absurd (cc (sym e ∙ sym (alike_right nat_list_cmp_total b name a f) ∙ ahead))
swap_step a b name x y value given Greater Greater ahead e f rest =
    rw (e, f) (rw e (ap (member name value) rest))

swap_ahead : (a b : List ℕ) (x y : Data) (given : Members) → order a b ≡ Less
    → put a x (put b y given) ≡ put b y (put a x given)
swap_ahead a b x y no_members ahead = rw (ahead, behind a b ahead) refl
swap_ahead a b x y (member name value given) ahead =
    swap_step a b name x y value given (order a name) (order b name) ahead refl refl
    (swap_ahead a b x y given ahead)

same_names : (a b : List ℕ) → order a b ≡ Equal → a ≡ b
same_names a b e = (bytes_eq-Decides a b).0 (sym (is_eq-slice_cmp a b) ∙ ap is_eq e)

swap_by : (f : List ℕ → Data) (a b : List ℕ) (given : Members) (is : Ordering) → order a b ≡ is
    → put a (f a) (put b (f b) given) ≡ put b (f b) (put a (f a) given)
swap_by f a b given Less e = swap_ahead a b (f a) (f b) given e
swap_by f a b given Equal e = rw (same_names a b e) refl
swap_by f a b given Greater e =
    let turned : order b a ≡ Less = nat_list_cmp_total.antisymm b a ∙ ap ordering_reverse e in
    sym (swap_ahead b a (f b) (f a) given turned)

-- ---- many names

-- given with each name of a list put
abbrev pub with_all : (List ℕ → Data) → Members → List (List ℕ) → Members
with_all f given names = fold (λ held name. put name (f name) held) given names

put_first : (f : List ℕ → Data) (a : List ℕ) (given : Members) (names : List (List ℕ))
    → put a (f a) (with_all f given names) ≡ with_all f (put a (f a) given) names
put_first f a given [] = refl
put_first f a given (name ∷ names) =
    put_first f a (put name (f name) given) names
    ∙ ap (λ held. with_all f held names) (swap_by f a name given (order a name) refl)

absorbed : (f : List ℕ → Data) (a : List ℕ) (given : Members) (names : List (List ℕ)) → Contains names a
    → with_all f (put a (f a) given) names ≡ with_all f given names
absorbed f a given [] (k, within, is) = absurd (omega (arith, within))
absorbed f a given (name ∷ names) (zero, within, is) =
    ap (λ held. with_all f held names)
    (subst (λ one. put name (f name) (put one (f one) given) ≡ put name (f name) given) is
    (put_again name (f name) given))
absorbed f a given (name ∷ names) (suc k, within, is) =
    ap (λ held. with_all f held names) (swap_by f name a given (order name a) refl)
    ∙ absorbed f a (put name (f name) given) names (k, omega (arith, within), is)

all_absorbed : (f : List ℕ → Data) (given : Members) (names others : List (List ℕ)) → All (Contains names) others
    → with_all f (with_all f given names) others ≡ with_all f given names
all_absorbed f given names [] each = refl
all_absorbed f given names (other ∷ others) each =
    ap (λ held. with_all f held others)
    (put_first f other given names
    ∙ absorbed f other given names (All-head (Contains names) other others each))
    ∙ all_absorbed f given names others (All-tail (Contains names) other others each)

either_first : (f : List ℕ → Data) (given : Members) (names others : List (List ℕ))
    → with_all f (with_all f given names) others ≡ with_all f (with_all f given others) names
either_first f given [] others = refl
either_first f given (name ∷ names) others =
    either_first f (put name (f name) given) names others
    ∙ ap (λ held. with_all f held names) (sym (put_first f name given others))

-- two lists of the same names
pub same_members : (f : List ℕ → Data) (given : Members) (names others : List (List ℕ))
    → All (Contains names) others → All (Contains others) names
    → with_all f given names ≡ with_all f given others
same_members f given names others one other =
    sym (all_absorbed f given names others one) ∙ either_first f given names others
    ∙ all_absorbed f given others names other
