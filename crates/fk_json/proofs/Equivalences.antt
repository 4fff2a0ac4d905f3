-- Equivalences, one after another and side by side.
use Rattle.std.proofs.Common.{◌≡◌, ◌⊎◌, inl, inr, ◌↔◌, Bool, true, false, if◌then◌else◌, refl}

pub same : {A : Type 0} → A ↔ A
same = (λ a. a, λ a. a)

pub through : {A B C : Type 0} → A ↔ B → B ↔ C → A ↔ C
through f g = (λ a. g.0 (f.0 a), λ c. f.1 (g.1 c))

pub back : {A B : Type 0} → A ↔ B → B ↔ A
back f = (f.1, f.0)

pub neither : {A : Type 0} → ¬ A → A ↔ ⊥
neither none = (λ a. none a, λ n. absurd n)

-- both sides go on as they are
pub either : {A B C D : Type 0} → A ↔ C → B ↔ D → (A ⊎ B) ↔ (C ⊎ D)
either {A} {B} {C} {D} f g = (
  λ h. elim h as (λ _. C ⊎ D) [ inl p ↦ inl (f.0 p) | inr p ↦ inr (g.0 p) ],
  λ h. elim h as (λ _. A ⊎ B) [ inl p ↦ inl (f.1 p) | inr p ↦ inr (g.1 p) ],
)

-- one side alone is left
pub left_alone : {A B C : Type 0} → A ↔ C → ¬ B → (A ⊎ B) ↔ C
left_alone {A} {B} {C} f none = (
  λ h. elim h as (λ _. C) [ inl p ↦ f.0 p | inr p ↦ absurd (none p) ],
  λ h. inl (f.1 h),
)

pub right_alone : {A B C : Type 0} → ¬ A → B ↔ C → (A ⊎ B) ↔ C
right_alone {A} {B} {C} none f = (
  λ h. elim h as (λ _. C) [ inl p ↦ absurd (none p) | inr p ↦ f.0 p ],
  λ h. inr (f.1 h),
)

-- by a test
pub by_test : {A M : Type 0} (G : M → Type 0) (one other : M) (test : Bool)
    → (test ≡ true → A ↔ G one) → (test ≡ false → A ↔ G other)
    → A ↔ G (if test then one else other)
by_test G one other true y n = y refl
by_test G one other false y n = n refl
