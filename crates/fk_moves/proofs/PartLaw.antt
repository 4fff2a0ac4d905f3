-- A part and what stands behind it are a field.
use Rattle.std.proofs.Common.{◌≡◌, ℕ, List, ◌++◌, length, Bool, true, false, Option, None, Some, Result, Ok, Err, refl, sym, ap, subst, ◌∙◌, append_assoc, arith, length-append, inl, inr}
use Rattle.std.specs.Prelude.{MatchOption}
use Rattle.std.proofs.lemmas.Bool.{cases_lt}
use Rattle.fk_job.specs.Spellings.{AreBytes}
use Rattle.fk_moves.specs.Fields.{Field, ◌>>=◌, bytes_of, part, nothing, choose}
use Rattle.fk_moves.proofs.Aligned.{aligned, bytes_behind, found_both, stopped_at, found_is}
use Rattle.fk_moves.proofs.FieldLaws.{IsField, IsStuck}

-- no bytes are a field
pub nothing_law : {T : Type 0} (value : T) → IsField (nothing value)
nothing_law value = record {
  takes = λ bytes rest v _ is. let same = found_is (value, bytes) (v, rest) is in (ap (λ (x : _ × List ℕ). x.0) (sym same), ap (λ (x : _ × List ℕ). x.1) same);
  again = λ v rest has. ap (λ w. Ok (w, rest)) (sym has);
  stuck = λ bytes left _ is. absurd cc;
  some = value;
  has = refl;
}

pub never_both : {X : Type 0} (r : Result X ℕ) (left : ℕ) (x : X) → r ≡ Err left → r ≡ Ok x → ⊥
never_both r left x e f = absurd cc

-- a part of a value, the others, and the spelling of both
pub record Parted {T A : Type 0} (which : T → Option A) (field : Field A) (others : A → Field T) (v : T) : Type 0 where
  pub found : A
  pub is : which v ≡ Some found
  pub has : field.Has found
  pub rests : (others found).Has v
  pub joined : (part which field others).spelled v ≡ field.spelled found ++ (others found).spelled v

parted_of : {T A : Type 0} (o : Option A) (field : Field A) (others : A → Field T) (v : T)
    → MatchOption o ⊥ (λ found. field.Has found × (others found).Has v)
    → (found : A) × (o ≡ Some found) × field.Has found × (others found).Has v
    × (bytes_of o (λ a. field.spelled a ++ (others a).spelled v) ≡ field.spelled found ++ (others found).spelled v)
parted_of None field others v has = absurd has
parted_of (Some found) field others v has = (found, refl, has.0, has.1, refl)

pub parted : {T A : Type 0} (which : T → Option A) (field : Field A) (others : A → Field T) (v : T)
    → (part which field others).Has v → Parted which field others v
parted which field others v has = let p = parted_of (which v) field others v has in
    record { found = p.0; is = p.1; has = p.2; rests = p.3; joined = p.4 }

-- a value of which the part and the others have a spelling
pub put_together : {T A : Type 0} (which : T → Option A) (field : Field A) (others : A → Field T) (v : T) (found : A)
    → which v ≡ Some found → field.Has found → (others found).Has v → Parted which field others v
put_together which field others v found is has rests = record {
  found = found;
  is = is;
  has = has;
  rests = rests;
  joined = ap (λ (o : Option _). bytes_of o (λ a. field.spelled a ++ (others a).spelled v)) is;
}

whole_of : {T A : Type 0} (which : T → Option A) (field : Field A) (others : A → Field T) (v : T)
    → Parted which field others v → (part which field others).Has v
whole_of which field others v p =
    subst (λ (o : Option _). MatchOption o ⊥ (λ found. field.Has found × (others found).Has v)) (sym p.is) (p.has, p.rests)

-- the others belong to the part that they are read behind
abbrev pub Belongs : {T A : Type 0} → (T → Option A) → Field A → (A → Field T) → Type 0
Belongs {T} {A} which field others = (found : A) (v : T) → field.Has found → (others found).Has v → which v ≡ Some found

takes : {T A : Type 0} (which : T → Option A) (field : Field A) (others : A → Field T)
    → IsField field → ((found : A) → field.Has found → IsField (others found)) → Belongs which field others
    → (bytes rest : List ℕ) (v : T) → AreBytes bytes → (part which field others).read bytes ≡ Ok (v, rest)
    → (part which field others).Has v × (bytes ≡ (part which field others).spelled v ++ rest)
unfolding put_together
takes which field others one law belongs bytes rest v all is =
    let both = found_both (field.read bytes) (λ x. (others x.0).read x.1) (v, rest) is in
    let x = both.0 in
    let first = one.takes bytes x.1 x.0 all both.1 in
    let left = bytes_behind (field.spelled x.0) x.1 (subst AreBytes first.1 all) in
    let second = (law x.0 first.0).takes x.1 rest v left both.2 in
    let p = put_together which field others v x.0 (belongs x.0 v first.0 second.0) first.0 second.0 in (
      whole_of which field others v p,
      first.1 ∙ ap (λ (b : List ℕ). field.spelled x.0 ++ b) second.1 ∙ sym (append_assoc (field.spelled x.0) ((others x.0).spelled v) rest) ∙ sym (ap (λ (b : List ℕ). b ++ rest) p.joined),
    )

again : {T A : Type 0} (which : T → Option A) (field : Field A) (others : A → Field T)
    → IsField field → ((found : A) → field.Has found → IsField (others found))
    → (v : T) (rest : List ℕ) → (part which field others).Has v
    → (part which field others).read ((part which field others).spelled v ++ rest) ≡ Ok (v, rest)
again which field others one law v rest has =
    let p = parted which field others v has in
    let a = p.found in
    let bytes : (part which field others).spelled v ++ rest ≡ field.spelled a ++ ((others a).spelled v ++ rest)
    = ap (λ (b : List ℕ). b ++ rest) p.joined ∙ append_assoc (field.spelled a) ((others a).spelled v) rest in
    let first : (field.read (field.spelled a ++ ((others a).spelled v ++ rest)) >>= λ x. (others x.0).read x.1) ≡ (others a).read ((others a).spelled v ++ rest)
    = ap (λ (r : Result _ ℕ). r >>= λ x. (others x.0).read x.1) (one.again a ((others a).spelled v ++ rest) p.has) in
    ap (part which field others).read bytes ∙ first ∙ (law a p.has).again v rest p.rests

-- reading stops within the part
stuck_first : {T A : Type 0} (which : T → Option A) (field : Field A) (others : A → Field T)
    → IsField field → ((found : A) → field.Has found → IsField (others found)) → Belongs which field others
    → (bytes : List ℕ) (left : ℕ) → AreBytes bytes → field.read bytes ≡ Err left
    → IsStuck (part which field others) bytes left
unfolding put_together
stuck_first which field others one law belongs bytes left all is =
    let s = one.stuck bytes left all is in
    let then = law s.value s.has in
    let p = put_together which field others then.some s.value (belongs s.value then.some s.has then.has) s.has then.has in
    let tail = (others s.value).spelled then.some in
    record {
      front = s.front;
      back = s.back;
      parts = s.parts;
      behind = s.behind;
      more = s.more ++ tail;
      value = then.some;
      has = whole_of which field others then.some p;
      begins = sym (append_assoc s.front s.more tail) ∙ ap (λ (b : List ℕ). b ++ tail) s.begins ∙ sym p.joined;
      longest = λ a b c v parts has begins.
          let q = parted which field others v has in
          let spelled = field.spelled q.found in
          let rests = (others q.found).spelled v in
          let begun : a ++ c ≡ spelled ++ rests = begins ∙ q.joined in
          elim (cases_lt (length spelled) (length a)) [
            | inl lt ↦
                let more = aligned spelled rests a c (sym begun) (omega arith) in
                let read : field.read bytes ≡ Ok (q.found, more.0 ++ b)
                = ap field.read (parts ∙ ap (λ (x : List ℕ). x ++ b) more.1 ∙ append_assoc spelled more.0 b) ∙ one.again q.found (more.0 ++ b) q.has in
                absurd (never_both _ _ _ is read)
            | inr le ↦
                let more = aligned a c spelled rests begun le in
                s.longest a b more.0 q.found parts q.has (sym more.1)
          ];
    }

-- reading stops behind the part
stuck_behind : {T A : Type 0} (which : T → Option A) (field : Field A) (others : A → Field T)
    → IsField field → ((found : A) → field.Has found → IsField (others found)) → Belongs which field others
    → (bytes rest : List ℕ) (found : A) (left : ℕ) → AreBytes bytes → field.read bytes ≡ Ok (found, rest)
    → (others found).read rest ≡ Err left → IsStuck (part which field others) bytes left
unfolding put_together
stuck_behind {T} {A} which field others one law belongs bytes rest found left all is stops =
    let first = one.takes bytes rest found all is in
    let head = field.spelled found in
    let s = (law found first.0).stuck rest left (bytes_behind head rest (subst AreBytes first.1 all)) stops in
    let p = put_together which field others s.value found (belongs found s.value first.0 s.has) first.0 s.has in
    let whole : bytes ≡ (head ++ s.front) ++ s.back
    = first.1 ∙ ap (λ (x : List ℕ). head ++ x) s.parts ∙ sym (append_assoc head s.front s.back) in
    record {
      front = head ++ s.front;
      back = s.back;
      parts = whole;
      behind = s.behind;
      more = s.more;
      value = s.value;
      has = whole_of which field others s.value p;
      begins = append_assoc head s.front s.more ∙ ap (λ (x : List ℕ). head ++ x) s.begins ∙ sym p.joined;
      longest = λ a b c v parts has begins.
          let q = parted which field others v has in
          let spelled = field.spelled q.found in
          let rests = (others q.found).spelled v in
          let begun : a ++ c ≡ spelled ++ rests = begins ∙ q.joined in
          elim (cases_lt (length head) (length a)) [
            | inl lt ↦
                let more = aligned head rest a b (sym first.1 ∙ parts) (omega arith) in
                let read_one : field.read (a ++ c) ≡ Ok (found, more.0 ++ c)
                = ap field.read (ap (λ (x : List ℕ). x ++ c) more.1 ∙ append_assoc head more.0 c) ∙ one.again found (more.0 ++ c) first.0 in
                let read_other : field.read (a ++ c) ≡ Ok (q.found, rests)
                = ap field.read begun ∙ one.again q.found rests q.has in
                let same = found_is (found, more.0 ++ c) (q.found, rests) (sym read_one ∙ read_other) in
                let one_found : found ≡ q.found = ap (λ (x : A × List ℕ). x.0) same in
                let has_here : (others found).Has v = subst (λ (x : A). (others x).Has v) (sym one_found) q.rests in
                let tail : more.0 ++ c ≡ (others found).spelled v
                = ap (λ (x : A × List ℕ). x.1) same ∙ ap (λ (x : A). (others x).spelled v) (sym one_found) in
                let short = s.longest more.0 b c v more.2 has_here tail in
                omega (arith, short, ap length more.1, length-append head more.0, length-append head s.front)
            | inr le ↦ omega (arith, length-append head s.front)
          ];
    }

pub part_law : {T A : Type 0} (which : T → Option A) (field : Field A) (others : A → Field T)
    → IsField field → ((found : A) → field.Has found → IsField (others found)) → Belongs which field others
    → IsField (part which field others)
unfolding put_together
part_law which field others one law belongs =
    let then = law one.some one.has in
    record {
      takes = takes which field others one law belongs;
      again = again which field others one law;
      stuck = λ bytes left all is.
          elim (stopped_at (field.read bytes) (λ x. (others x.0).read x.1) left is) [
            | inl at_once ↦ stuck_first which field others one law belongs bytes left all at_once
            | inr later ↦ stuck_behind which field others one law belongs bytes later.0.1 later.0.0 left all later.1 later.2
          ];
      some = then.some;
      has = whole_of which field others then.some
          (put_together which field others then.some one.some (belongs one.some then.some one.has then.has) one.has then.has);
    }

-- one field or another
pub choose_law : {T : Type 0} (b : Bool) (field other : Field T) → IsField field → IsField other → IsField (choose b field other)
choose_law true field other one two = one
choose_law false field other one two = two
