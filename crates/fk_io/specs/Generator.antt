-- The generator of the real dice: ChaCha with 12 rounds, made of a seed, as `rand` has it.
use Rattle.std.specs.Prelude.{◌≡◌, ℕ, List, length}
use Rattle.rand_core.specs.Stream.{Stream}
use Rattle.rand_core.specs.Steps.{stream_of, steps_u32}
use Rattle.rand_chacha.specs.ChaCha.{ChaCha, next_word, of_seed}

-- what a generator answers from now on
abbrev pub answers_of : ChaCha → Stream
answers_of generator = stream_of (steps_u32 (next_word 6)) generator

-- the generator is at its beginning, for some seed of 32 bytes
abbrev pub IsSeeded : ChaCha → Type 0
IsSeeded generator = (seed : List ℕ) × (length seed ≡ 32) × (generator ≡ of_seed seed)
