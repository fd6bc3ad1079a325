-- Laws of link rows: what every form keeps to, where a row lies, and the link section as the code has it.
use Rattle.std.proofs.Common.{ℕ, suc, ◌+◌, ◌-◌, ◌*◌, ◌≤◌, ◌<◌, ◌≡◌, refl, Bool, true, false, cond, List, ◌⊎◌, inl, inr, mul-le-mul_left, mul-le-mul_right, mul-suc, arith, eqb, length, take, drop, length-drop, take_all}
use Rattle.sheet_rows.specs.declared.Form.{Form}
use Rattle.sheet_rows.specs.Form.{form_by, hall_links, hall_freqs, hall_words, most_links, most_freqs, most_words}
use Rattle.sheet_rows.specs.Rows.{HasLink, HasLinks, link_bytes}

-- what every form keeps to
pub record Small (f : Form) : Type 0 where
  pub some : 4 ≤ f.bytes
  pub bytes : f.bytes ≤ 8
  pub links : f.links ≤ most_links
  pub freqs : f.freqs ≤ most_freqs

-- the links, frequencies and work words of a form
pub record Sizes (f : Form) (links freqs words : ℕ) : Type 0 where
  pub most_links_lem : f.links ≡ links
  pub most_freqs_lem : f.freqs ≡ freqs
  pub work_words_lem : f.words ≡ words

either : (P : Form → Type 0) (b : Bool) (f g : Form) → P f → P g → P (cond b f g)
either P true f g F G = F
either P false f g F G = G

-- what holds of each row of the table holds of every form
form_each : (P : Form → Type 0) → P (record { known = true; bytes = 4; links = 64; freqs = 512; words = 8192 })
    → P (record { known = true; bytes = 8; links = 64; freqs = 512; words = 8192 })
    → P (record { known = true; bytes = 8; links = 128; freqs = 1024; words = 32768 })
    → P (record { known = false; bytes = 4; links = 64; freqs = 512; words = 8192 })
    → (number : ℕ) → P (form_by number)
unfolding form_by
form_each P one two three none number =
    either P (eqb number 1) _ _ one (either P (eqb number 2) _ _ two (either P (eqb number 3) _ _ three none))

pub form_small : (number : ℕ) → Small (form_by number)
form_small = form_each Small
    (record { some = omega arith; bytes = omega arith; links = omega arith; freqs = omega arith })
    (record { some = omega arith; bytes = omega arith; links = omega arith; freqs = omega arith })
    (record { some = omega arith; bytes = omega arith; links = omega arith; freqs = omega arith })
    (record { some = omega arith; bytes = omega arith; links = omega arith; freqs = omega arith })

-- a form has the sizes of a hall or those of a festival
pub form_sizes : (number : ℕ)
    → Sizes (form_by number) hall_links hall_freqs hall_words ⊎ Sizes (form_by number) most_links most_freqs most_words
form_sizes = form_each (λ f. Sizes f hall_links hall_freqs hall_words ⊎ Sizes f most_links most_freqs most_words)
    (inl (record { most_links_lem = refl; most_freqs_lem = refl; work_words_lem = refl }))
    (inl (record { most_links_lem = refl; most_freqs_lem = refl; work_words_lem = refl }))
    (inr (record { most_links_lem = refl; most_freqs_lem = refl; work_words_lem = refl }))
    (inl (record { most_links_lem = refl; most_freqs_lem = refl; work_words_lem = refl }))

-- no form needs fewer words than a hall
pub least_words : (number : ℕ) → hall_words ≤ (form_by number).words
least_words = form_each (λ f. hall_words ≤ f.words) (omega arith) (omega arith) (omega arith) (omega arith)

-- every form but the third has the links of a hall
pub hall_form : (number : ℕ) → eqb number 3 ≡ false → (form_by number).links ≡ hall_links
unfolding form_by
hall_form number e = rw e (either (λ f. f.links ≡ 64) (eqb number 1) _ _ refl
    (either (λ f. f.links ≡ 64) (eqb number 2) _ _ refl refl))

-- form 1, whose link rows have four bytes
pub one_is : form_by 1 ≡ record { known = true; bytes = 4; links = 64; freqs = 512; words = 8192 }
unfolding form_by
one_is = refl

-- "Form 3 is form 2 with these two limits"
pub two_is : form_by 2 ≡ record { known = true; bytes = 8; links = 64; freqs = 512; words = 8192 }
unfolding form_by
two_is = refl

pub three_is : form_by 3 ≡ record { known = true; bytes = 8; links = 128; freqs = 1024; words = 32768 }
unfolding form_by
three_is = refl

-- row l of k rows lies inside, whatever a row's length: the one place with a product of two unknowns
pub row_inside : (bytes l k : ℕ) → l < k → bytes * l + bytes ≤ bytes * k
row_inside bytes l k h = rw mul-suc at (mul-le-mul_left {m = suc l} {n = k} bytes (omega arith))

-- k rows of at most 8 bytes
pub rows_small : (bytes k : ℕ) → bytes ≤ 8 → bytes * k ≤ 8 * k
rows_small bytes k h = mul-le-mul_right {m = bytes} {n = 8} k h

pub has_link : (s : List ℕ) (k l : ℕ) → HasLinks s k → l < k → HasLink s l
has_link s k l h b = omega (arith, row_inside (link_bytes s) l k b)

-- the part of a list that begins at a place, as the code has it
pub part_from : (s : List ℕ) (a : ℕ) → take (length s - a) (drop a s) ≡ drop a s
part_from s a = take_all (length s - a) (drop a s) (rw (length-drop a s) (omega arith))
