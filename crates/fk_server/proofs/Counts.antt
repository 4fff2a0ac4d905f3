-- The number of iterations that is read of a text.
use Rattle.std.proofs.Common.{◌≡◌, ℕ, List, Option, None, Some, Result, Ok, Err, refl, arith}
use Rattle.std.specs.Prelude.{IfSome, unwrap_or, option_map}
use Rattle.std.specs.Str.Parse.{ParsesUnsigned}
use Rattle.clap.specs.Matches.{ReadsOne}
use Rattle.fk_server.specs.Words.{IsCount, AreWithin, number_of}

-- a number within the bounds is read
pub count_read : (E : Type 0) (G : List ℕ → Result ℕ E → Type 0) (text : List ℕ) (read : Option ℕ) →
    ((t : List ℕ) (answer : Result ℕ E) → G t answer → ParsesUnsigned 32 10 t answer) →
    ReadsOne G text read → IsCount text → read ≡ Some (number_of text)
count_read E G text (Some n) parses reads count =
    let parsed = parses text (Ok n) reads in
    rw parsed.1
count_read E G text None parses reads count =
    absurd (parses text (Err reads.0) reads.1 (count.0, omega (arith, count.1)))

-- or there is none to be read, and the default stands
pub count_or_default : (E : Type 0) (G : List ℕ → Result ℕ E → Type 0) (given : Option (List ℕ))
    (read : Option ℕ) →
    ((t : List ℕ) (answer : Result ℕ E) → G t answer → ParsesUnsigned 32 10 t answer) →
    (given ≡ None → read ≡ None) → ((t : List ℕ) → given ≡ Some t → ReadsOne G t read) →
    IfSome given IsCount →
    (unwrap_or read 4_096 ≡ unwrap_or (option_map number_of given) 4_096)
    × AreWithin (unwrap_or read 4_096)
count_or_default E G None read parses none some count = rw (none refl) (refl, (omega arith, omega arith))
count_or_default E G (Some text) read parses none some count =
    rw (count_read E G text read parses (some text refl) count) (refl, count.1)
