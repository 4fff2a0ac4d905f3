-- The names of the last members, and which of them count.
use Rattle.std.proofs.Common.{◌≡◌, ℕ, ◌+◌, ◌<◌, ◌≤◌, ◌||◌, Bool, true, false, cond, not, Ordering, List, [], ◌∷◌, ◌++◌, length, drop, get_or, reverse, refl, sym, ap, ◌∙◌, arith}
use Rattle.std.proofs.lemmas.List.{drop_more, reverse-append}
use Rattle.std.proofs.lemmas.Map.Text.{is_eq-slice_cmp}
use Rattle.std.specs.BTreeSet.{BTreeSet, Updates, contains}
use Rattle.std.specs.Borrow.{Bor}
use Rattle.std.specs.Cmp.Lexicographic.{slice_cmp}
use Rattle.std.specs.Ordering.{nat_cmp}
use Rattle.std.specs.List.{list_any}
use Rattle.std.specs.Str.{bytes_eq}
use Rattle.fk_json.specs.declared.member.Member.{Member}
use Rattle.fk_job.specs.Members.{is_named}
use Rattle.fk_job.specs.Pieces.{counting_flags}

-- the order of names, which is that of their bytes
abbrev pub name_order : Bor (List ℕ) → Bor (List ℕ) → Ordering
name_order one other = slice_cmp nat_cmp one.now other.now

-- a name as a key; where it lies makes no difference
abbrev pub name_key : List ℕ → Bor (List ℕ)
name_key name = record { ref_ptr = (0, 0); now = name }

-- the set has a name
abbrev pub has_name : BTreeSet (Bor (List ℕ)) → List ℕ → Bool
has_name names name = contains name_order names (name_key name)

-- the members from a place on have been looked at
pub record Seen
    (members : List Member) (at : ℕ) (names : BTreeSet (Bor (List ℕ))) (flags : List Bool) : Type 0 where
  pub inside : at ≤ length members
  pub names_seen : (name : List ℕ) → has_name names name ≡ list_any (is_named name) (drop at members)
  pub flags_so_far : flags ≡ reverse (counting_flags (drop at members))

cond_or : (t b : Bool) → cond t true b ≡ (t || b)
cond_or true b = refl
cond_or false b = refl

-- one more member
pub one_seen : (members : List Member) (at n : ℕ) (member : Member) (names new : BTreeSet (Bor (List ℕ)))
    (key : Bor (List ℕ)) (added : Bool) (flags more : List Bool) → at < length members → n ≡ at + 1
    → member ≡ get_or members at member → key.now ≡ member.name → Updates name_order names new key true
    → added ≡ not (contains name_order names key) → more ≡ flags ++ added ∷ [] → Seen members n names flags
    → Seen members at new more
one_seen members at n member names new key added flags more inside next is named updates adds pushed seen =
    let left = drop n members in
    let there : drop at members ≡ member ∷ left
    = rw (next, drop_more members at member inside) (ap (λ m. m ∷ drop (at + 1) members) (sym is)) in
    let counts : added ≡ not (list_any (is_named member.name) left)
    = adds ∙ ap not (seen.names_seen key.now) ∙ ap (λ l. not (list_any (is_named l) left)) named in
    record {
      inside = omega arith;
      names_seen = λ name.
          updates.0 (name_key name)
          ∙ ap (λ t. cond t true (has_name names name)) (is_eq-slice_cmp key.now name ∙ ap (λ l. bytes_eq l name) named)
          ∙ cond_or (bytes_eq member.name name) (has_name names name)
          ∙ ap (λ b. bytes_eq member.name name || b) (seen.names_seen name)
          ∙ ap (list_any (is_named name)) (sym there);
      flags_so_far = pushed
          ∙ ap (λ l. l ++ added ∷ []) seen.flags_so_far
          ∙ ap (λ b. reverse (counting_flags left) ++ b ∷ []) counts
          ∙ sym (reverse-append (not (list_any (is_named member.name) left) ∷ []) (counting_flags left))
          ∙ ap (λ l. reverse (counting_flags l)) (sym there);
    }
