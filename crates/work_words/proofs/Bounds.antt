-- The rows of a form's vertices and of twice its classes leave room in its words for a row for each depth, and for the
-- builder of the greedy classes.
use Rattle.std.proofs.Common.{◌⊎◌, inl, inr, ℕ, ◌+◌, ◌*◌, ◌/◌, ◌≤◌, le_trans, mul-le-mul_left, mul-le-mul_right, arith}
use Rattle.sheet_rows.specs.Form.{form_by, hall_links, hall_freqs, hall_words, most_links, most_freqs, most_words}
use Rattle.sheet_rows.proofs.Rows.{Sizes, form_sizes}
use Rattle.work_words.specs.Layout.{WithinForm}

pub record Bounds (n k w len : ℕ) : Type 0 where
  pub wide : n ≤ 64 * w
  pub few : w ≤ 16
  pub rows : n * w ≤ 16384
  pub classes : k * w ≤ 2048
  pub deep : k * w + 4 * w + (k * w + k * w) + n * w ≤ len
  pub front : n + n + w + (k * w + k * w) + n * w ≤ len

pub bounds : (n k len : ℕ) → WithinForm n k len → Bounds n k ((n + 63) / 64) len
bounds n k len F = go (form_sizes F.number)
  where
    w : ℕ
    w = (n + 63) / 64

    product : {a b c d : ℕ} → a ≤ c → b ≤ d → a * b ≤ c * d
    product {b = b} {c = c} h l = le_trans (mul-le-mul_right b h) (mul-le-mul_left c l)

    go : Sizes (form_by F.number) hall_links hall_freqs hall_words
        ⊎ Sizes (form_by F.number) most_links most_freqs most_words
        → Bounds n k ((n + 63) / 64) len
    go (inl s) =
        let a : n ≤ 512 = omega (arith, F.freqs, s.most_freqs_lem) in
        let b : k ≤ 64 = omega (arith, F.links, s.most_links_lem) in
        let l : (n + 63) / 64 ≤ 8 = omega arith in
        let r = product a l in
        let c = product b l in
        let d : 8192 ≤ len = omega (arith, F.words, s.work_words_lem) in
        record {
          wide = omega arith;
          few = omega arith;
          rows = omega arith;
          classes = omega arith;
          deep = omega arith;
          front = omega arith;
        }
    go (inr s) =
        let a : n ≤ 1024 = omega (arith, F.freqs, s.most_freqs_lem) in
        let b : k ≤ 128 = omega (arith, F.links, s.most_links_lem) in
        let l : (n + 63) / 64 ≤ 16 = omega arith in
        let r = product a l in
        let c = product b l in
        let d : 32768 ≤ len = omega (arith, F.words, s.work_words_lem) in
        record {
          wide = omega arith;
          few = omega arith;
          rows = omega arith;
          classes = omega arith;
          deep = omega arith;
          front = omega arith;
        }
