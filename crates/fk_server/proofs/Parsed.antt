-- What a parse of the options of `pipe` found of the iterations.
use Rattle.std.proofs.Common.{◌≡◌, ◌⊎◌, ◌∙◌, ◌<◌, ap, sym, subst, refl, arith, ℕ, Bool, true, false, List, [], ◌∷◌, length, Option, None, Some, inl, inr, codes, pos}
use Rattle.std.specs.Prelude.{IfSome, slice_get, option_map, option_and_then}
use Rattle.std.specs.List.{All, slice_index_or}
use Rattle.std.specs.Str.{bytes_eq}
use Rattle.std.specs.Str.Parse.{starts_with_minus}
use Rattle.std.specs.Borrow.{Bor}
use Rattle.std.proofs.lemmas.Int.{ints}
use Rattle.std.proofs.lemmas.List.Elements.{All-get_or}
use Rattle.std.proofs.lemmas.Slice.Eq.{bytes_eq-Decides}
use Rattle.clap.specs.Lexer.{without_minus}
use Rattle.clap.specs.Values.{Accepts, IsSignedIn, read_as, reading_of}
use Rattle.clap.specs.Facts.{Entry, EntryPasses, EntryValuesPass, IsGroupEntry, IsKnownGroup, ReadsByParser, PassesArg, HasReading, args_of, groups_of, parser_of, parser_of_value}
use Rattle.clap.specs.Built.{IsParsedFrom}
use Rattle.clap.specs.Matches.{found_of, matched_of, one_text}
use Rattle.clap.specs.Walk.{Rule, one_of, rows_of}
use Rattle.clap.specs.Simple.{app_of}
use Rattle.clap.specs.declared.builder.arg.Arg.{Arg}
use Rattle.clap.specs.declared.builder.command.Command.{Command}
use Rattle.clap.specs.declared.builder.value_parser.ValueParser.{ValueParser}
use Rattle.clap.specs.declared.builder.value_parser.ValueParser.TheVariants.{Signed}
use Rattle.clap.specs.declared.builder.value_parser.Reading.{Reading}
use Rattle.clap.specs.declared.parser.matches.ArgMatches.{ArgMatches}
use Rattle.clap.specs.declared.parser.matches.MatchedArg.{MatchedArg}
use Rattle.clap.proofs.CallerLemmas.{entry_by_id, same_rules_by_id}
use Rattle.fk_server.specs.Words.{IsCount, pipe_options}
use Rattle.fk_server.proofs.Found.{one_found}
use Rattle.fk_server.proofs.Options.{IsPipe, is_pipe}

-- a text without a minus
kept : (text : List ℕ) → starts_with_minus text ≡ false → without_minus text ≡ text
kept [] none = refl
kept (x ∷ xs) none = rw none refl

-- a text that clap takes for a number of iterations is one
count_taken : (text : List ℕ) → IsSignedIn (pos 1) (pos 65_536) text → IsCount (without_minus text)
count_taken text passed = go (starts_with_minus text) refl
  where
    go : (minus : Bool) → starts_with_minus text ≡ minus → IsCount (without_minus text)
    go true minus = let low = rw minus at passed.2 in absurd (omega (arith, ints))
    go false minus =
        let low = rw minus at passed.2 in
        let high = rw minus at passed.3 in
        let numeral = rw minus at passed.0 in
        subst IsCount (sym (kept text minus)) (numeral, (omega (arith, ints), omega (arith, ints)))

abbrev first_byte : List ℕ → ℕ
first_byte text = slice_index_or text 0 0

-- the name of the option is none that building adds, and not empty
not_auto : (name : List ℕ) → name ≡ codes "iterations" → (name ≡ codes "help") ⊎ (name ≡ codes "version") → ⊥
not_auto name is (inl help) = let bad : 105 ≡ 104 = ap first_byte (sym is ∙ help) in absurd (omega (arith, bad))
not_auto name is (inr version) = let bad : 105 ≡ 118 = ap first_byte (sym is ∙ version) in absurd (omega (arith, bad))

not_empty : (name : List ℕ) → name ≡ codes "iterations" → name ≡ [] → ⊥
not_empty name is none = let bad : 105 ≡ 0 = ap first_byte (sym is ∙ none) in absurd (omega (arith, bad))

abbrev parser : ValueParser
parser = Signed (pos 1) (pos 65_536)

module _ (old : Command) (found : ArgMatches) (from : IsParsedFrom old found) (pipe : IsPipe old) where
  -- an argument of the built command that is called so has that parser
  parser_is : (j : ℕ) (a : Arg) → j < length (args_of from.built)
      → slice_index_or (args_of from.built) j a ≡ a → bytes_eq a.id.now (codes "iterations") ≡ true
      → (parser_of a ≡ parser) × (a.ignore_case ≡ false)
  parser_is j a below at same =
      let is = pipe.args.is a in
      let id : (slice_index_or (args_of old) 1 a).id.now ≡ codes "iterations" = ap (λ (r : Rule). r.id) is in
      let rules = same_rules_by_id old found from 1 a pipe.args.there
      (λ k e low one. pipe.args.alone k a e low one) (not_auto _ id) j a below at
      (subst (λ (t : List ℕ). bytes_eq a.id.now t ≡ true) (sym id) same) in (
        ap parser_of_value (rules.parser parser (ap (λ (r : Rule). r.parser) is)),
        rules.ignore_case ∙ ap (λ (r : Rule). r.ignore_case) is,
      )

  -- a value that passes is a number of iterations
  value_counts : (value : List ℕ) → PassesArg from.built (codes "iterations") value
      → IsCount (without_minus value)
  value_counts value passes =
      let is = parser_is passes.0 passes.1 passes.2 passes.3 passes.4.0 in
      let one = subst (λ (p : ValueParser). Accepts passes.1.ignore_case p value) is.0 passes.4.1 in
      count_taken value (subst (λ (b : Bool). Accepts b parser value) is.1 one)

  reading_is : (reading : Reading) → HasReading from.built (codes "iterations") reading
      → reading ≡ reading_of parser
  reading_is reading has =
      let is = parser_is has.0 has.1 has.2 has.3 has.4.0 in
      sym has.4.1 ∙ ap reading_of is.0

  -- the command as it was built has no group
  no_groups : groups_of from.built ≡ []
  no_groups = (from.from.same_groups pipe.args.groups).1 ∙ pipe.groups

  -- the entry of that name is no group's
  not_group : (entry : Entry) → entry.0.now ≡ codes "iterations" → IsGroupEntry from.built entry
      → entry.1.is_group ≡ true → ⊥
  not_group entry key known group = go (known group)
    where
      go : IsKnownGroup from.built entry.0.now → ⊥
      go (inl none) = not_empty _ key none
      go (inr some) = let bad : 0 < 0 = rw no_groups at some in absurd (omega (arith, bad))

  -- its first value is a number of iterations
  first_counts : (entry : Entry) → entry.0.now ≡ codes "iterations"
      → All (λ value. PassesArg from.built entry.0.now value.now) entry.1.vals.items
      → entry.1.reading ≡ reading_of parser
      → IfSome (option_map (λ s. read_as entry.1.reading s.now) (slice_get entry.1.vals.items 0)) IsCount
  first_counts entry key all reading = go entry.1.vals.items all
    where
      go : (values : List (Bor (List ℕ))) → All (λ value. PassesArg from.built entry.0.now value.now) values
          → IfSome (option_map (λ s. read_as entry.1.reading s.now) (slice_get values 0)) IsCount
      go [] all = tt
      go (value ∷ values) all = rw reading
          (value_counts value.now (subst (λ (t : List ℕ). PassesArg from.built t value.now) key
          (All-get_or (λ v. PassesArg from.built entry.0.now v.now) (value ∷ values) 0 value (omega arith) all)))

  entry_counts : (entry : Entry) → entry.0.now ≡ codes "iterations" → EntryPasses from.built entry
      → IfSome (option_map (λ s. read_as entry.1.reading s.now) (slice_get entry.1.vals.items 0)) IsCount
  entry_counts entry key passes = go passes.0 passes.4
    where
      go : EntryValuesPass from.built entry → ReadsByParser from.built entry
          → IfSome (option_map (λ s. read_as entry.1.reading s.now) (slice_get entry.1.vals.items 0)) IsCount
      go (inl group) read = absurd (not_group entry key passes.3 group)
      go (inr all) (inl group) = absurd (not_group entry key passes.3 group)
      go (inr all) (inr has) = first_counts entry key all (reading_is entry.1.reading
          (subst (λ (t : List ℕ). HasReading from.built t entry.1.reading) key has))

  -- what is read of what was found
  read_counts : IfSome (one_text (found_of found) (codes "iterations")) IsCount
  read_counts = go (matched_of (found_of found) (codes "iterations")) refl
    where
      go : (matched : Option MatchedArg) → matched_of (found_of found) (codes "iterations") ≡ matched
          → IfSome (option_and_then (λ a. option_map (λ s. read_as a.reading s.now)
          (slice_get a.vals.items 0)) matched) IsCount
      go None is = tt
      go (Some arg) is =
          let parsed = from.parsed (from.from.globals ∙ pipe.globals) in
          let of = entry_by_id (EntryPasses from.built) (found_of found).entries.items
          (codes "iterations") arg parsed.values is in
          subst (λ (a : MatchedArg). IfSome (option_map (λ s. read_as a.reading s.now)
          (slice_get a.vals.items 0)) IsCount) of.1
          (entry_counts of.0 ((bytes_eq-Decides of.0.0.now (codes "iterations")).0 of.2) of.3)

pub counts_are : (old : Command) (found : ArgMatches) → app_of old ≡ pipe_options →
    IsParsedFrom old found → IfSome (one_of (codes "iterations") (rows_of (found_of found))) IsCount
counts_are old found are parsed =
    subst (λ (text : Option (List ℕ)). IfSome text IsCount) (one_found (found_of found) (codes "iterations"))
    (read_counts old found parsed (is_pipe old are))
