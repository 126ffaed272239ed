-- The words of a schedule: those of the generator, one after another.
use Rattle.std.specs.Prelude.{ℕ, zero, suc, ◌%◌}
use Rattle.rand_pcg.specs.Lcg.{Lcg, started, increment_of}
use Rattle.rand_pcg.specs.Pcg.{multiplier_64, pcg32}

-- the words that begin at this number: those of stream 1
unfoldable pub words_from : ℕ → Lcg
words_from start = started 64 multiplier_64 start (increment_of 64 1)

-- the next word, and the words behind it
unfoldable pub next_word : Lcg → ℕ × Lcg
next_word words = pcg32 words

-- a pick among n is the next word modulo n
abbrev pub pick : ℕ → Lcg → ℕ × Lcg
pick n words = ((next_word words).0 % n, (next_word words).1)

-- the words behind so many
unfoldable pub words_after : ℕ → Lcg → Lcg
words_after zero words = words
words_after (suc n) words = words_after n (next_word words).1
