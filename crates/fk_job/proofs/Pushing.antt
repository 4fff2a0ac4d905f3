-- Bytes that are added to a text one after another.
use Rattle.std.proofs.Common.{◌≡◌, ℕ, List, ◌++◌, Result, Ok, Err, ap, ◌∙◌, append_assoc}
use Rattle.std.specs.Result.{OnOk}

-- some bytes, and then more
pub behind : (old mid new head more : List ℕ) → mid ≡ old ++ head → new ≡ mid ++ more → new ≡ old ++ (head ++ more)
behind old mid new head more first second = second ∙ ap (λ text. text ++ more) first ∙ append_assoc old head more

-- the same, where the call that adds more is the last
pub behind_ok : {E : Type 0} (r : Result (Unit {0}) E) (old mid new head more : List ℕ) → mid ≡ old ++ head
    → OnOk r (new ≡ mid ++ more) → OnOk r (new ≡ old ++ (head ++ more))
behind_ok (Ok x) old mid new head more first second = behind old mid new head more first second
behind_ok (Err e) old mid new head more first second = tt

-- an object behind a name: its opening with a first member, four further parts, and its end
pub object_ok : {E : Type 0} (r : Result (Unit {0}) E) (old named a b c d e f new : List ℕ)
    (head first second third fourth fifth sixth end : List ℕ)
    → named ≡ old ++ head → a ≡ named ++ first → b ≡ a ++ second → c ≡ b ++ third → d ≡ c ++ fourth
    → e ≡ d ++ fifth → f ≡ e ++ sixth → OnOk r (new ≡ f ++ end)
    → OnOk r (new ≡ old ++ (head ++ (first ++ second ++ third ++ fourth ++ fifth ++ sixth ++ end)))
object_ok r old named a b c d e f new head first second third fourth fifth sixth end is_named is_a is_b is_c is_d is_e is_f ends =
    let two = behind named a b first second is_a is_b in
    let three = behind named b c (first ++ second) third two is_c in
    let four = behind named c d (first ++ second ++ third) fourth three is_d in
    let five = behind named d e (first ++ second ++ third ++ fourth) fifth four is_e in
    let six = behind named e f (first ++ second ++ third ++ fourth ++ fifth) sixth five is_f in
    behind_ok r old named new head (first ++ second ++ third ++ fourth ++ fifth ++ sixth ++ end) is_named
    (behind_ok r named f new (first ++ second ++ third ++ fourth ++ fifth ++ sixth) end six ends)

-- an array behind a name: its bracket, its first item, the others, and its end
pub array_ok : {E : Type 0} (r : Result (Unit {0}) E) (old named a b c new : List ℕ) (head begin first others end : List ℕ)
    → named ≡ old ++ head → a ≡ named ++ begin → b ≡ a ++ first → c ≡ b ++ others → OnOk r (new ≡ c ++ end)
    → OnOk r (new ≡ old ++ (head ++ (begin ++ (first ++ others) ++ end)))
array_ok r old named a b c new head begin first others end is_named is_a is_b is_c ends =
    let items = behind a b c first others is_b is_c in
    let all = behind named a c begin (first ++ others) is_a items in
    behind_ok r old named new head (begin ++ (first ++ others) ++ end) is_named
    (behind_ok r named c new (begin ++ (first ++ others)) end all ends)
