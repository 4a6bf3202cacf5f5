-- The words that a seed draws: numbered streams of 64-bit words.
use Rattle.std.specs.Prelude.{ℕ, ◌+◌, ◌*◌, ◌^◌, List, ◌++◌, map, replicate}
use Rattle.std.specs.Int.{w64, to_le_bytes}
use Rattle.std.specs.List.{range_with_len}
use Rattle.rand_chacha.specs.ChaCha.{ChaCha, word_at, key_of}

-- the 32 bytes of the ChaCha20 key: the seed, least significant byte first, and 24 zero bytes
abbrev pub key_bytes : ℕ → List ℕ
key_bytes seed = to_le_bytes w64 seed ++ replicate 24 0

-- the 32-bit word at a place, from 0, of a stream: the stream's number is the nonce, and the block
-- counter rises from 0
abbrev pub half_word : ℕ → ℕ → ℕ → ℕ
half_word seed stream place = word_at 10 (key_of (key_bytes seed)) stream place

-- the 64-bit word at a place, from 0, of a stream: two 32-bit words, the less significant first
abbrev pub stream_word : ℕ → ℕ → ℕ → ℕ
stream_word seed stream place =
    half_word seed stream (2 * place) + half_word seed stream (2 * place + 1) * 2 ^ 32

-- the first words of a stream
abbrev pub stream_words : ℕ → ℕ → ℕ → List ℕ
stream_words seed stream count = map (stream_word seed stream) (range_with_len 0 count)

-- the generator that comes next to the 64-bit word at a place of a stream
abbrev pub at_word : ℕ → ℕ → ℕ → ChaCha
at_word seed stream place =
    record { key = key_of (key_bytes seed); stream = stream; word_pos = 2 * place }
