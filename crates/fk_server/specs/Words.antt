-- Which words of a command line are valid, and what they say. The options are read by clap's own rule.
use Rattle.std.specs.Prelude.{◌≡◌, ◌≤◌, ℕ, List, [], ◌∷◌, true, Some, pos, codes, drop, unwrap_or, option_map}
use Rattle.std.specs.Borrow.{Bor}
use Rattle.std.specs.Str.Parse.{IsNumeral, digits_value, without_leading_plus}
use Rattle.clap.specs.Walk.{Row, Rule, texts, first_of, one_of}
use Rattle.clap.specs.Simple.{App, matches_of, new_app, new_rule, on_top, with_rule}
use Rattle.clap.specs.Faults.{fault_of}
use Rattle.clap.specs.declared.builder.value_parser.ValueParser.TheVariants.{Signed}
use Rattle.fk_server.specs.declared.words.CommandWord.TheVariants.{Pipe}
use Rattle.fk_server.specs.declared.words.Settings.{Settings}

-- an option `--NAME TEXT`
abbrev pub text_option : List ℕ → Rule
text_option name = record (new_rule name) { long = Some name }

-- the option `--iterations N`, with a number from 1 to 65,536
abbrev pub iterations_option : Rule
iterations_option = record (new_rule (codes "iterations")) {
  long = Some (codes "iterations");
  parser = Some (Signed (pos 1) (pos 65_536));
}

-- no options, not even one for help
abbrev pub no_options : App
no_options = on_top (λ command. record command { no_binary_name = true; disable_help_flag = true })
    (new_app (codes "pipe"))

-- the options that may stand behind `pipe`: a password, how often it is hashed, and the folder of the
-- server's files
abbrev pub pipe_options : App
pipe_options =
    with_rule (with_rule (with_rule no_options (text_option (codes "password"))) iterations_option)
    (text_option (codes "dir"))

-- the first word is `pipe`, and the others are options that clap takes
abbrev pub IsCommandLine : List (List ℕ) → Type 0
IsCommandLine [] = ⊥
IsCommandLine (first ∷ rest) = (first ≡ codes "pipe") × (fault_of pipe_options rest ≡ [])

abbrev pub AreValid : List (Bor (List ℕ)) → Type 0
AreValid words = IsCommandLine (texts words)

-- the number of its digits, behind a plus that may stand before them
abbrev pub number_of : List ℕ → ℕ
number_of text = digits_value 10 (without_leading_plus text)

-- how often a password may be hashed
abbrev pub AreWithin : ℕ → Type 0
AreWithin iterations = (1 ≤ iterations) × (iterations ≤ 65_536)

-- the text is a number of iterations
abbrev pub IsCount : List ℕ → Type 0
IsCount text = IsNumeral 10 (without_leading_plus text) × AreWithin (number_of text)

-- the iterations that the option says, or the default
abbrev pub iterations_of : List Row → ℕ
iterations_of found = unwrap_or (option_map number_of (one_of (codes "iterations") found)) 4_096

-- the folder that the option says, or the default
abbrev pub dir_of : List Row → List ℕ
dir_of found = unwrap_or (first_of (codes "dir") found) (codes ".")

-- what the options say, where clap has found these values, and the defaults of the others
abbrev pub settings_in : List Row → Settings
settings_in found = record {
  command = Pipe;
  password = first_of (codes "password") found;
  iterations = iterations_of found;
  dir = dir_of found;
}

-- what the words say
abbrev pub settings_of : List (Bor (List ℕ)) → Settings
settings_of words = settings_in (matches_of pipe_options (drop 1 (texts words)))
