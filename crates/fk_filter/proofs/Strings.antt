-- Texts that are read of strings, one by one.
use Rattle.std.proofs.Common.{◌≡◌, ◌∙◌, ℕ, zero, suc, ◌+◌, ◌<◌, List, [], ◌∷◌, ◌++◌, refl, sym, ap, subst, arith, take, length, map, slice_index_or, Option, None, Some, Result, Ok, Err, Vec, Global}
use Rattle.std.specs.Prelude.{option_and_then, option_map, IsErrAnd}
use Rattle.std.proofs.Math.Seq.{take-suc}
use Rattle.std.proofs.lemmas.List.{map-append}
use Rattle.serde_json.specs.Data.{Data}
use Rattle.serde_json.specs.Find.{as_str}
use Rattle.serde_json.specs.View.{view}
use Rattle.serde_json.proofs.Views.{view-Array}
use Rattle.serde_json.specs.declared.value.Value.{Array, Value}
use Rattle.fk_filter.specs.declared.fault.FilterFault.{FilterFault}
use Rattle.fk_filter.specs.declared.fault.FilterFault.TheVariants.{BadFilter}
use Rattle.fk_model.specs.Filters.{strings, texts_of}
use Rattle.fk_filter.specs.Reads.{Reads}
use Rattle.fk_filter.proofs.Arrays.{elements-items_view}

-- one more string behind a first, and behind those that follow it
puts_first : (first : Option (List ℕ)) (others more : Option (List (List ℕ))) (texts : List (List ℕ)) (text : List ℕ)
    → ((found : List (List ℕ)) → others ≡ Some found → more ≡ Some (found ++ text ∷ []))
    → option_and_then (λ one. option_map (λ all. one ∷ all) others) first ≡ Some texts
    → option_and_then (λ one. option_map (λ all. one ∷ all) more) first ≡ Some (texts ++ text ∷ [])
puts_first None others more texts text rest before = absurd (grind (arith, before))
puts_first (Some first) None more texts text rest before = absurd (grind (arith, before))
puts_first (Some first) (Some others) more texts text rest before =
    rw (rest others refl) (grind (arith, before))

-- one more string
strings-snoc : (elements : List Data) (last : Data) (texts : List (List ℕ)) (text : List ℕ)
    → strings elements ≡ Some texts → as_str last ≡ Some text
    → strings (elements ++ last ∷ []) ≡ Some (texts ++ text ∷ [])
strings-snoc [] last texts text before is = rw is (grind (arith, before))
strings-snoc (element ∷ elements) last texts text before is =
    puts_first (as_str element) (strings elements) (strings (elements ++ last ∷ [])) texts text
    (λ found rest. strings-snoc elements last found text rest is) before

-- one more of these values is a string
pub reads_string : (values : List Value) (at : ℕ) (value : Value) (texts : List (List ℕ)) (text : List ℕ)
    → at < length values → value ≡ slice_index_or values at value
    → strings (map view (take at values)) ≡ Some texts → as_str (view value) ≡ Some text
    → strings (map view (take (at + 1) values)) ≡ Some (texts ++ text ∷ [])
reads_string values at value texts text within here before is =
    let next : at + 1 ≡ suc at = omega arith in
    let longer : take (at + 1) values ≡ take at values ++ value ∷ [] =
    ap (λ count. take count values) next ∙ take-suc values at value within
    ∙ ap (λ one. take at values ++ one ∷ []) (sym here) in
    rw (longer, map-append view (take at values) (value ∷ []))
    (strings-snoc (map view (take at values)) (view value) texts text before is)

none_behind : (first : Option (List ℕ)) (others : Option (List (List ℕ))) → others ≡ None
    → option_and_then (λ one. option_map (λ all. one ∷ all) others) first ≡ None
none_behind None others none = refl
none_behind (Some one) others none = rw none refl

no_strings : (values : List Value) (at : ℕ) (d : Value) → at < length values
    → as_str (view (slice_index_or values at d)) ≡ None → strings (map view values) ≡ None
no_strings [] at d within none = absurd (omega (arith, within))
no_strings (value ∷ values) zero d within none = rw none refl
no_strings (value ∷ values) (suc at) d within none =
    none_behind (as_str (view value)) (strings (map view values)) (no_strings values at d (omega (arith, within)) none)

-- one of these values is no string
pub no_string : (values : List Value) (at : ℕ) (value : Value) → at < length values
    → value ≡ slice_index_or values at value → as_str (view value) ≡ None → strings (map view values) ≡ None
no_string values at value within here none =
    no_strings values at value within (subst (λ one. as_str (view one) ≡ None) here none)

-- an array has the texts of its elements
pub texts_there : (array : Vec Value Global) (values : List Value) → values ≡ array.items
    → texts_of (view (Array array)) ≡ option_map Some (strings (map view values))
texts_there array values is =
    rw (view-Array array, is) (ap (λ all. option_map Some (strings all)) (elements-items_view array.items))

-- a fault that rose was bad only where nothing is
pub rises : {X Y : Type 0} (there : Option X) (part : Option Y) (fault : FilterFault) (result : Result X FilterFault)
    → IsErrAnd result (λ rose. rose ≡ fault) → (fault ≡ BadFilter → part ≡ None)
    → (part ≡ None → there ≡ None) → Reads there result
rises there part fault (Ok x) rose bad none = absurd rose
rises there part fault (Err risen) rose bad none = λ is. none (bad (sym rose ∙ is))
