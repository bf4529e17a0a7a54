-- Sixteen words of the message schedule, and sixteen rounds, at a time: the form in which the code has them. Assumes nothing.
use Rattle.std.specs.Prelude.{◌≡◌, ℕ, ◌+◌, List, slice_index}
use Rattle.sha256.specs.Sha256.{◌⊞◌, round, word, σ₀, σ₁}
use Rattle.sha256.specs.declared.compression.Hash.{Hash}
use Rattle.sha256.specs.declared.compression.SixteenWords.{SixteenWords}

-- the schedule's next word, from those 2, 7, 15 and 16 places before it
unfoldable pub next_of : ℕ → ℕ → ℕ → ℕ → ℕ
next_of x2 x7 x15 x16 = σ₁ x2 ⊞ x7 ⊞ σ₀ x15 ⊞ x16

-- the words of a block
abbrev pub sixteen_words_of : List ℕ → SixteenWords
sixteen_words_of m =
    record {
      w0 = word m 0;
      w1 = word m 1;
      w2 = word m 2;
      w3 = word m 3;
      w4 = word m 4;
      w5 = word m 5;
      w6 = word m 6;
      w7 = word m 7;
      w8 = word m 8;
      w9 = word m 9;
      w10 = word m 10;
      w11 = word m 11;
      w12 = word m 12;
      w13 = word m 13;
      w14 = word m 14;
      w15 = word m 15;
    }

-- v are the sixteen words of the schedule that follow w
pub record NextSixteen (w v : SixteenWords) : Type 0 where
  pub f0 : v.w0 ≡ next_of w.w14 w.w9 w.w1 w.w0
  pub f1 : v.w1 ≡ next_of w.w15 w.w10 w.w2 w.w1
  pub f2 : v.w2 ≡ next_of v.w0 w.w11 w.w3 w.w2
  pub f3 : v.w3 ≡ next_of v.w1 w.w12 w.w4 w.w3
  pub f4 : v.w4 ≡ next_of v.w2 w.w13 w.w5 w.w4
  pub f5 : v.w5 ≡ next_of v.w3 w.w14 w.w6 w.w5
  pub f6 : v.w6 ≡ next_of v.w4 w.w15 w.w7 w.w6
  pub f7 : v.w7 ≡ next_of v.w5 v.w0 w.w8 w.w7
  pub f8 : v.w8 ≡ next_of v.w6 v.w1 w.w9 w.w8
  pub f9 : v.w9 ≡ next_of v.w7 v.w2 w.w10 w.w9
  pub f10 : v.w10 ≡ next_of v.w8 v.w3 w.w11 w.w10
  pub f11 : v.w11 ≡ next_of v.w9 v.w4 w.w12 w.w11
  pub f12 : v.w12 ≡ next_of v.w10 v.w5 w.w13 w.w12
  pub f13 : v.w13 ≡ next_of v.w11 v.w6 w.w14 w.w13
  pub f14 : v.w14 ≡ next_of v.w12 v.w7 w.w15 w.w14
  pub f15 : v.w15 ≡ next_of v.w13 v.w8 v.w0 w.w15

-- sixteen elements of a list from index i on
abbrev pub words_from : List ℕ → ℕ → SixteenWords
words_from k i =
    record {
      w0 = slice_index k i;
      w1 = slice_index k (i + 1);
      w2 = slice_index k (i + 2);
      w3 = slice_index k (i + 3);
      w4 = slice_index k (i + 4);
      w5 = slice_index k (i + 5);
      w6 = slice_index k (i + 6);
      w7 = slice_index k (i + 7);
      w8 = slice_index k (i + 8);
      w9 = slice_index k (i + 9);
      w10 = slice_index k (i + 10);
      w11 = slice_index k (i + 11);
      w12 = slice_index k (i + 12);
      w13 = slice_index k (i + 13);
      w14 = slice_index k (i + 14);
      w15 = slice_index k (i + 15);
    }

-- sixteen rounds with the words w and the constants k
unfoldable pub sixteen_rounds : Hash → SixteenWords → SixteenWords → Hash
sixteen_rounds s k w =
    let s1 = round s k.w0 w.w0 in
    let s2 = round s1 k.w1 w.w1 in
    let s3 = round s2 k.w2 w.w2 in
    let s4 = round s3 k.w3 w.w3 in
    let s5 = round s4 k.w4 w.w4 in
    let s6 = round s5 k.w5 w.w5 in
    let s7 = round s6 k.w6 w.w6 in
    let s8 = round s7 k.w7 w.w7 in
    let s9 = round s8 k.w8 w.w8 in
    let s10 = round s9 k.w9 w.w9 in
    let s11 = round s10 k.w10 w.w10 in
    let s12 = round s11 k.w11 w.w11 in
    let s13 = round s12 k.w12 w.w12 in
    let s14 = round s13 k.w13 w.w13 in
    let s15 = round s14 k.w14 w.w14 in
    round s15 k.w15 w.w15
