-- The lines of a listing as characters (document 01, Cases: the listing and its fields). Assumes nothing.
use Rattle.std.specs.Prelude.{ℕ, zero, suc, ◌+◌, ◌/◌, ◌%◌, cond, List, [], ◌∷◌, ◌++◌, ltb, take, drop}
use Rattle.listing_lines.specs.Hex.{high_digit, low_digit}

-- ## Fields

-- the decimal digits of a number that has at most k of them
unfoldable pub decimal_in : ℕ → ℕ → List ℕ
decimal_in zero n = []
decimal_in (suc k) n = cond (ltb n 10) ((48 + n) ∷ []) (decimal_in k (n / 10) ++ (48 + n % 10) ∷ [])

-- those of a number below 2^64
unfoldable pub decimal : ℕ → List ℕ
decimal n = decimal_in 20 n

-- the hexadecimal digits of bytes, two a byte
unfoldable pub hexadecimal : List ℕ → List ℕ
hexadecimal [] = []
hexadecimal (b ∷ bs) = high_digit b ∷ low_digit b ∷ hexadecimal bs

-- a record's transfer number in 16 digits: bytes 8-15, whether or not the record reads
unfoldable pub number_text : List ℕ → List ℕ
number_text r = hexadecimal (take 8 (drop 8 r))

-- home total, far total and in flight, each after a blank, and the line feed
unfoldable pub figures_text : ℕ → ℕ → ℕ → List ℕ
figures_text home far flight = 32 ∷ decimal home ++ 32 ∷ decimal far ++ 32 ∷ decimal flight ++ 10 ∷ []

-- ## Lines

-- "record number answer home far flight"
unfoldable pub header_line : List ℕ
header_line =
    114 ∷ 101 ∷ 99 ∷ 111 ∷ 114 ∷ 100 ∷ 32
    ∷ 110 ∷ 117 ∷ 109 ∷ 98 ∷ 101 ∷ 114 ∷ 32
    ∷ 97 ∷ 110 ∷ 115 ∷ 119 ∷ 101 ∷ 114 ∷ 32
    ∷ 104 ∷ 111 ∷ 109 ∷ 101 ∷ 32
    ∷ 102 ∷ 97 ∷ 114 ∷ 32
    ∷ 102 ∷ 108 ∷ 105 ∷ 103 ∷ 104 ∷ 116 ∷ 10
    ∷ []

-- "open - 0" and the figures
unfoldable pub open_line : List ℕ → List ℕ
open_line figures = 111 ∷ 112 ∷ 101 ∷ 110 ∷ 32 ∷ 45 ∷ 32 ∷ 48 ∷ figures

-- the line of a record: index, transfer number, answer and figures
unfoldable pub record_line : ℕ → List ℕ → ℕ → List ℕ → List ℕ
record_line index r answer figures = decimal index ++ 32 ∷ number_text r ++ 32 ∷ decimal answer ++ figures

-- "fault", the refusal and the block
unfoldable pub fault_line : ℕ → ℕ → List ℕ
fault_line refusal block = 102 ∷ 97 ∷ 117 ∷ 108 ∷ 116 ∷ 32 ∷ decimal refusal ++ 32 ∷ decimal block ++ 10 ∷ []

-- ## Room

-- the room that any line takes, and the figures with their blanks and the line feed
abbrev pub line_room : ℕ
line_room = 128

abbrev pub figures_room : ℕ
figures_room = 64
