-- The two lower-case hexadecimal digits of a byte (document 01, the fields of a listing). Assumes nothing.
use Rattle.std.specs.Prelude.{ℕ, ◌+◌, ◌*◌, ◌/◌, ◌%◌, ◌<◌, cond, List, [], ◌∷◌, ◌++◌, ◌≡◌, ltb, length, take, drop}
use Prim.Native.Char.{code}
use Prim.Native.String.{String, [] as end, ◌∷◌ as ◌then◌}

-- the character of a digit below 16
abbrev pub digit : ℕ → ℕ
digit d = cond (ltb d 10) (48 + d) (87 + d)

-- the first digit of a byte
abbrev pub high_digit : ℕ → ℕ
high_digit b = digit (b / 16)

-- the second
abbrev pub low_digit : ℕ → ℕ
low_digit b = digit (b % 16)

-- ## The former table (document 02, U4)

-- the characters of a text as numbers: of those here the ASCII ones
unfoldable pub characters : String → List ℕ
characters end = []
characters (c then t) = code c ∷ characters t

-- the text of the table: the two characters of each byte, from 0 to 255
unfoldable pub digit_table : List ℕ
digit_table =
    characters "000102030405060708090a0b0c0d0e0f101112131415161718191a1b1c1d1e1f"
    ++ characters "202122232425262728292a2b2c2d2e2f303132333435363738393a3b3c3d3e3f"
    ++ characters "404142434445464748494a4b4c4d4e4f505152535455565758595a5b5c5d5e5f"
    ++ characters "606162636465666768696a6b6c6d6e6f707172737475767778797a7b7c7d7e7f"
    ++ characters "808182838485868788898a8b8c8d8e8f909192939495969798999a9b9c9d9e9f"
    ++ characters "a0a1a2a3a4a5a6a7a8a9aaabacadaeafb0b1b2b3b4b5b6b7b8b9babbbcbdbebf"
    ++ characters "c0c1c2c3c4c5c6c7c8c9cacbcccdcecfd0d1d2d3d4d5d6d7d8d9dadbdcdddedf"
    ++ characters "e0e1e2e3e4e5e6e7e8e9eaebecedeeeff0f1f2f3f4f5f6f7f8f9fafbfcfdfeff"

-- it has two characters for each byte and no more, and for every byte they are its two digits, of which `hexadecimal` is made
unfoldable pub DigitsAsHeld : Type 0
DigitsAsHeld =
    (length digit_table ≡ 2 * 256) × ((b : ℕ) → b < 256 → take 2 (drop (2 * b) digit_table) ≡ high_digit b ∷ low_digit b ∷ [])
