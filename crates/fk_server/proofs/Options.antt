-- The options of `pipe`, as their command holds them.
use Rattle.std.proofs.Common.{◌≡◌, ◌<◌, ap, refl, arith, ℕ, Bool, true, false, not, List, [], ◌∷◌, length, map, ◌==◌, codes}
use Rattle.std.specs.Prelude.{zero, suc}
use Rattle.std.specs.List.{All, slice_index_or}
use Rattle.std.specs.Str.{bytes_eq}
use Rattle.std.proofs.lemmas.Bool.{and_parts, eqb-true}
use Rattle.std.proofs.lemmas.List.Elements.{All-cons, All-nil}
use Rattle.clap.specs.Facts.{args_of, groups_of}
use Rattle.clap.specs.Walk.{Rule, rule_of}
use Rattle.clap.specs.Simple.{app_of, has_plain_fields}
use Rattle.clap.specs.Faults.{is_simple_and_free}
use Rattle.clap.specs.declared.builder.arg.Arg.{Arg}
use Rattle.clap.specs.declared.builder.command.Command.{Command}
use Rattle.clap.specs.declared.builder.command.Command.TheViews.{out-Command}
use Rattle.fk_server.specs.Words.{pipe_options, iterations_option}

-- they use no setting that changes how words are read, and no rule on one another
pub simple_and_free : is_simple_and_free pipe_options ≡ true
simple_and_free = refl

empty : {X : Type 0} (xs : List X) → (length xs == 0) ≡ true → xs ≡ []
empty [] none = refl
empty (x ∷ xs) none = let bad = eqb-true (length (x ∷ xs)) 0 none in absurd (omega (arith, bad))

is_false : (b : Bool) → not b ≡ true → b ≡ false
is_false false e = refl
is_false true e = cc

-- an argument of a plain rule names no group
no_group : (a : Arg) → (rule_of a).is_simple ≡ true → a.groups.items ≡ []
no_group a simple =
    let first = and_parts _ _ simple in
    let next = and_parts _ _ first.1 in
    empty a.groups.items (and_parts _ _ next.1).0

-- the iterations are the second of the options, and no other one is called like them
pub record HasIterations (args : List Arg) : Type 0 where
  pub there : 1 < length args
  pub is : (d : Arg) → rule_of (slice_index_or args 1 d) ≡ iterations_option
  pub alone : (j : ℕ) (d e : Arg) → j < length args
      → bytes_eq (slice_index_or args j e).id.now (slice_index_or args 1 d).id.now ≡ true → j ≡ 1
  pub groups : All (λ a. a.groups.items ≡ []) args

-- names of options differ
only_one : (a b c : Arg) → a.id.now ≡ codes "password" → b.id.now ≡ codes "iterations"
    → c.id.now ≡ codes "dir" → (j : ℕ) (e : Arg) → j < 3
    → bytes_eq (slice_index_or (a ∷ b ∷ c ∷ []) j e).id.now b.id.now ≡ true → j ≡ 1
only_one a b c first second third zero e below same =
    let bad : false ≡ true = rw (first, second) at same in cc
only_one a b c first second third (suc zero) e below same = refl
only_one a b c first second third (suc (suc zero)) e below same =
    let bad : false ≡ true = rw (third, second) at same in cc
only_one a b c first second third (suc (suc (suc j))) e below same = absurd (omega (arith, below))

of_three : (a b c : Arg) → map rule_of (a ∷ b ∷ c ∷ []) ≡ pipe_options.top.rules
    → HasIterations (a ∷ b ∷ c ∷ [])
of_three a b c are =
    let first = ap (λ (rules : List Rule). slice_index_or rules 0 (rule_of a)) are in
    let second = ap (λ (rules : List Rule). slice_index_or rules 1 (rule_of b)) are in
    let third = ap (λ (rules : List Rule). slice_index_or rules 2 (rule_of c)) are in
    record {
      there = omega arith;
      is = λ d. second;
      alone = λ j d e below same. only_one a b c (ap (λ (rule : Rule). rule.id) first)
          (ap (λ (rule : Rule). rule.id) second) (ap (λ (rule : Rule). rule.id) third) j e below same;
      groups = All-cons (λ a. a.groups.items ≡ []) a (b ∷ c ∷ [])
          (no_group a (ap (λ (rule : Rule). rule.is_simple) first))
          (All-cons (λ a. a.groups.items ≡ []) b (c ∷ [])
          (no_group b (ap (λ (rule : Rule). rule.is_simple) second))
          (All-cons (λ a. a.groups.items ≡ []) c []
          (no_group c (ap (λ (rule : Rule). rule.is_simple) third)) (All-nil _)));
    }

has_iterations : (args : List Arg) → map rule_of args ≡ pipe_options.top.rules → HasIterations args
has_iterations args are = go args are (ap (λ (rules : List Rule). length rules) are)
  where
    go : (args : List Arg) → map rule_of args ≡ pipe_options.top.rules
        → length (map rule_of args) ≡ 3 → HasIterations args
    go [] are three = absurd (omega (arith, three))
    go (a ∷ []) are three = absurd (omega (arith, three))
    go (a ∷ b ∷ []) are three = absurd (omega (arith, three))
    go (a ∷ b ∷ c ∷ []) are three = of_three a b c are
    go (a ∷ b ∷ c ∷ d ∷ rest) are three = absurd (omega (arith, three))

-- what their command has
pub record IsPipe (command : Command) : Type 0 where
  pub args : HasIterations (args_of command)
  pub groups : groups_of command ≡ []
  pub globals : (out-Command command).has_globals ≡ false

pub is_pipe : (command : Command) → app_of command ≡ pipe_options → IsPipe command
is_pipe command are =
    let plain : has_plain_fields (out-Command command) ≡ true = ap (λ app. app.top.is_plain) are in
    let first = and_parts _ _ plain in
    let next = and_parts _ _ first.1 in
    record {
      args = has_iterations (args_of command) (ap (λ app. app.top.rules) are);
      groups = empty (groups_of command) first.0;
      globals = is_false _ (and_parts _ _ next.1).0;
    }
