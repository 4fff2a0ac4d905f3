-- The marks of what was written.
use Rattle.std.proofs.Common.{◌≡◌, ℕ, ◌+◌, ◌-◌, ◌<◌, ◌≤◌, min, Bool, true, false, arith, ap, sym, ◌∙◌, inl, inr}
use Rattle.std.proofs.Common.{List, ◌++◌, length, take, drop, get_or, replicate, length-append, length-drop}
use Rattle.std.proofs.lemmas.Bool.{cases_lt}
use Rattle.std.proofs.lemmas.List.{length-take, length-take-le, length-replicate, get_or-replicate, get_or_append_left, get_or-append_right, get_or-take, get_or-drop, get_or_past}
use Rattle.fk_disk.specs.Since.{marked}

-- how many marks a range sets
abbrev set_of : List Bool → ℕ → ℕ → ℕ
set_of marks at count = min count (length marks - at)

-- the part up to the end of the range
front_of : List Bool → ℕ → ℕ → List Bool
front_of marks at count = take at marks ++ replicate (set_of marks at count) true

length-front : (marks : List Bool) (at count : ℕ) →
    length (front_of marks at count) ≡ min (length marks) (at + count)
unfolding front_of
length-front marks at count =
    rw (length-append, length-take at marks, length-replicate) (omega arith)

-- a range sets as many marks as there are
pub length-marked : (marks : List Bool) (at count : ℕ) → length (marked marks at count) ≡ length marks
unfolding front_of
length-marked marks at count =
    rw (length-append, length-front marks at count, length-drop) (omega arith)

-- past its end there is no mark before and after
past : (marks : List Bool) (at count place : ℕ) → length marks ≤ place →
    get_or (marked marks at count) place false ≡ get_or marks place false
past marks at count place outside =
    let still : length (marked marks at count) ≤ place = rw (length-marked marks at count) outside in
    get_or_past (marked marks at count) place false still ∙ sym (get_or_past marks place false outside)

-- before the range each is as it was
pub get_or-marked_below : (marks : List Bool) (at count place : ℕ) → place < at →
    get_or (marked marks at count) place false ≡ get_or marks place false
unfolding front_of
get_or-marked_below marks at count place before =
    elim (cases_lt place (length marks)) [
      | inl inside ↦
          let back : List Bool = drop (at + count) marks in
          let ones : List Bool = replicate (set_of marks at count) true in
          let in_front : place < length (front_of marks at count) =
          rw (length-front marks at count) (omega (arith, before, inside)) in
          let in_first : place < length (take at marks) =
          rw (length-take at marks) (omega (arith, before, inside)) in
          get_or_append_left (take at marks ++ ones) back false place in_front
          ∙ get_or_append_left (take at marks) ones false place in_first
          ∙ get_or-take at marks place false before
      | inr outside ↦ past marks at count place outside
    ]

-- behind it, too
pub get_or-marked_above : (marks : List Bool) (at count place : ℕ) → at + count ≤ place →
    get_or (marked marks at count) place false ≡ get_or marks place false
unfolding front_of
get_or-marked_above marks at count place behind =
    elim (cases_lt place (length marks)) [
      | inl inside ↦
          let end : ℕ = at + count in
          let whole : length (front_of marks at count) ≡ end =
          rw (length-front marks at count) (omega (arith, behind, inside)) in
          let same : end + (place - end) ≡ place = omega (arith, behind) in
          get_or-append_right (front_of marks at count) (drop end marks) end place false whole behind
          ∙ get_or-drop end marks (place - end) false
          ∙ ap (λ k. get_or marks k false) same
      | inr outside ↦ past marks at count place outside
    ]

-- in it each is set
pub get_or-marked_inside : (marks : List Bool) (at count place : ℕ) → at ≤ place → place < at + count →
    place < length marks → get_or (marked marks at count) place false ≡ true
unfolding front_of
get_or-marked_inside marks at count place from to inside =
    let back : List Bool = drop (at + count) marks in
    let ones : List Bool = replicate (set_of marks at count) true in
    let in_front : place < length (front_of marks at count) =
    rw (length-front marks at count) (omega (arith, to, inside)) in
    let first : length (take at marks) ≡ at = length-take-le at marks (omega (arith, from, inside)) in
    get_or_append_left (take at marks ++ ones) back false place in_front
    ∙ get_or-append_right (take at marks) ones at place false first from
    ∙ get_or-replicate (set_of marks at count) (place - at) true false (omega (arith, from, to, inside))
