-- Laws of sets that lie in rows of one list of words: where a row lies, what a write leaves as it was, and a loop that
-- writes a row.
use Rattle.std.proofs.Common.{ℕ, suc, ◌+◌, ◌-◌, ◌*◌, ◌/◌, ◌%◌, ◌^◌, ◌≤◌, ◌<◌, true, false, List, ◌≡◌, refl, ap, ◌∙◌, mul-le-mul_right, suc-mul, arith, below_more, length, get_or, set, take, drop, length-set, length-take, length-drop, get_or-set_same, get_or-set_other, get_or-take, get_or-drop, ext_get_or}
use native.Mathlib.Decide.{ℕ_discrete, dec_lt}
use lib.Bits.{bit_and, bit_or}
use Rattle.sets.specs.Sets.{Set, ◌∩◌, ◌∪◌, ◌∖◌}
use Rattle.sets.proofs.Tests.{clash}
use Rattle.vset.specs.Words.{has}
use Rattle.vset.proofs.Words.{Ends, Word, word_has, word_meet, word_join, word_cut, row_keeps, ends_has, ends_wide}
use Rattle.vset.proofs.Words.{ends_meet, ends_join, ends_cut}
use Rattle.rows.specs.Rows.{set_at, Outside, Reads, Combined, Put}

-- row v of n rows lies inside: the one place with a product of two unknowns
pub row_inside : (v n w : ℕ) → v < n → v * w + w ≤ n * w
row_inside v n w h = rw suc-mul at (mul-le-mul_right {m = suc v} {n = n} w (omega arith))

pub row_length : (p : List ℕ) (w a : ℕ) → a + w ≤ length p → length (take w (drop a p)) ≡ w
row_length p w a h = simp (length-take, length-drop) (omega arith)

-- what is outside stays

pub outside_none : (lo hi : ℕ) (p : List ℕ) → Outside lo hi p p
outside_none lo hi p = record { len = refl; same = λ j h. refl }

pub outside_then : {lo hi : ℕ} {p q r : List ℕ} → Outside lo hi p q → Outside lo hi q r → Outside lo hi p r
outside_then x y = record { len = y.len ∙ x.len; same = λ j h. y.same j h ∙ x.same j h }

pub outside_wide : {lo hi : ℕ} {p q : List ℕ} (lo' hi' : ℕ) → lo' ≤ lo → hi ≤ hi' → Outside lo hi p q
    → Outside lo' hi' p q
outside_wide lo' hi' a b x = record { len = x.len; same = λ j h. x.same j (λ l r. h (omega arith) (omega arith)) }

module _ {lo hi : ℕ} {p q : List ℕ} (x : Outside lo hi p q) (w a : ℕ) where
  pub words_same : ((j : ℕ) → a ≤ j → j < a + w → lo ≤ j → j < hi → ⊥) → take w (drop a q) ≡ take w (drop a p)
  words_same h =
      ext_get_or 0 (take w (drop a q)) (take w (drop a p)) (simp (length-take, length-drop, x.len))
      (λ j l. let m : j < w = omega (arith, length-take w (drop a q)) in
      rw (get_or-take, get_or-drop, get_or-take, get_or-drop) (x.same (a + j) (h (a + j) (omega arith) (omega arith))))

  -- a row above, a row below
  pub above : hi ≤ a → set_at q w a ≡ set_at p w a
  unfolding set_at
  above h = ap has (words_same (λ j b c d e. omega arith))

  pub below : a + w ≤ lo → set_at q w a ≡ set_at p w a
  unfolding set_at
  below h = ap has (words_same (λ j b c d e. omega arith))

-- the set of a row

pub ends_set : (p : List ℕ) (w a : ℕ) → Ends (set_at p w a) (64 * w)
unfolding set_at
ends_set p w a = ends_wide (ends_has (take w (drop a p))) (64 * w) (omega (arith, length-take w (drop a p)))

pub set_past : (p : List ℕ) (w a v : ℕ) → 64 * w ≤ v → set_at p w a v ≡ false
set_past p w a = (ends_set p w a).past

-- a vertex of a row is one that its words have a bit for
pub row_member : (p : List ℕ) (w at v : ℕ) → set_at p w at v ≡ true → v < 64 * w
row_member p w at v h = go (dec_lt v (64 * w))
  where
    go : Dec (v < 64 * w) → v < 64 * w
    go (yes l) = l
    go (no l) = clash (set_at p w at v) h (set_past p w at v (omega arith))

-- a row inside a wider row
pub inner_row : (p : List ℕ) (w wide at a v : ℕ) → a + w ≤ wide → v < 64 * w
    → set_at p w (at + a) v ≡ set_at p wide at (64 * a + v)
unfolding set_at has
inner_row p w wide at a v h l =
    let d : (64 * a + v) / 64 ≡ a + v / 64 = omega arith in
    let m : (64 * a + v) % 64 ≡ v % 64 = omega arith in
    let q : at + a + v / 64 ≡ at + (a + v / 64) = omega arith in
    rw (
      d,
      m,
      get_or-take w (drop (at + a) p) (v / 64) 0 (omega arith),
      get_or-drop,
      get_or-take wide (drop at p) (a + v / 64) 0 (omega arith),
      get_or-drop,
      q,
    )

pub word_at_row : (p : List ℕ) (w a i : ℕ) → i < w → Word (set_at p w a) i (get_or p (a + i) 0)
unfolding set_at
word_at_row p w a i h = rw (get_or-take w (drop a p) i 0 h, get_or-drop) at (word_has (take w (drop a p)) i)

-- a loop that makes a row of two others, word by word

pub combined_none : (P : ℕ → ℕ → ℕ → Type 0) (to a b : ℕ) (p : List ℕ) → Combined P to a b p p 0
combined_none P to a b p = record { past = λ j h. absurd (omega arith); small = λ j h. absurd (omega arith); rest = outside_none _ _ p }

module _ {P : ℕ → ℕ → ℕ → Type 0} {to a b : ℕ} {p₀ p : List ℕ} {i : ℕ} (C : Combined P to a b p₀ p i) where
  -- a word that is read and not written yet
  unwritten : (w c : ℕ) → i < w → Reads w to c (length p₀) → get_or p (c + i) 0 ≡ get_or p₀ (c + i) 0
  unwritten w c h R = C.rest.same (c + i) (go (dec_lt c to))
    where
      go : Dec (c < to) → to ≤ c + i → c + i < to + i → ⊥
      go (yes l) m n = let r = R.clear l in omega arith
      go (no l) m n = omega arith

  -- one word more
  pub combined_more : (w x : ℕ) → i < w → to + w ≤ length p₀ → Reads w to a (length p₀) → Reads w to b (length p₀)
      → get_or p (b + i) 0 < 2 ^ 64 → P (get_or p (a + i) 0) (get_or p (b + i) 0) x
      → Combined P to a b p₀ (set p (to + i) x) (i + 1)
  combined_more w x h fits A B short made = record {
    past = λ j l. go j l (ℕ_discrete j i);
    small = below_more _ _ C.small (rw (← unwritten w b h B) short);
    rest = record {
      len = simp length-set C.rest.len;
      same = λ j l. get_or-set_other p (to + i) j x 0 (λ e. l (omega arith) (omega arith))
          ∙ C.rest.same j (λ m n. l m (omega arith));
    };
  }
    where
      go : (j : ℕ) → j < i + 1 → Dec (j ≡ i)
          → P (get_or p₀ (a + j) 0) (get_or p₀ (b + j) 0) (get_or (set p (to + i) x) (to + j) 0)
      go j l (yes e) =
          let r : to + i < length p = omega (arith, C.rest.len) in
          rw (e, get_or-set_same, ← unwritten w a h A, ← unwritten w b h B) made
      go j l (no n) = rw (get_or-set_other p (to + i) (to + j) x 0 (λ e. n (omega arith))) (C.past j (omega arith))

-- the row at `to` keeps S where each of its words does
pub put_words : {S : Set} {w to : ℕ} {p₀ p : List ℕ} → ((j : ℕ) → j < w → Word S j (get_or p (to + j) 0))
    → Outside to (to + w) p₀ p → to + w ≤ length p₀ → Ends S (64 * w) → Put S w to p₀ p
unfolding set_at
put_words {S} {w} {to} {p₀} {p} W O fits E =
    let n : length (take w (drop to p)) ≡ w = simp (length-take, length-drop) (omega (arith, O.len)) in
    record {
      here = row_keeps (take w (drop to p)) S
          (λ j l. let m : j < w = omega arith in rw (get_or-take, get_or-drop) (W j m)) (rw n E);
      rest = O;
    }

-- an operation on two sets that goes word by word: g makes of two words what f makes of the sets

pub record Wordwise (f : Set → Set → Set) (g : ℕ → ℕ → ℕ) : Type 0 where
  pub word : (S T : Set) (i x y : ℕ) → Word S i x → Word T i y → y < 2 ^ 64 → Word (f S T) i (g x y)
  pub ends : (S T : Set) (n : ℕ) → Ends S n → Ends T n → Ends (f S T) n

pub meeting : Wordwise ◌∩◌ bit_and
meeting = record { word = λ S T i x y p q b. word_meet p q; ends = λ S T n p q. ends_meet p T }

pub joining : Wordwise ◌∪◌ bit_or
joining = record { word = λ S T i x y p q b. word_join p q; ends = λ S T n p q. ends_join p q }

pub cutting : Wordwise ◌∖◌ (λ x y. bit_and x (2 ^ 64 - 1 - y))
cutting = record { word = λ S T i x y p q b. word_cut p q b; ends = λ S T n p q. ends_cut p T }

pub copying : Wordwise (λ S T. S) (λ x y. x)
copying = record { word = λ S T i x y p q b. p; ends = λ S T n p q. p }

-- a row that is made so keeps what the operation makes of the sets
pub put_combined : {f : Set → Set → Set} {g : ℕ → ℕ → ℕ} {P : ℕ → ℕ → ℕ → Type 0} {w to a b : ℕ} {p₀ p : List ℕ}
    → Wordwise f g → ((x y r : ℕ) → P x y r → r ≡ g x y) → Combined P to a b p₀ p w
    → to + w ≤ length p₀ → Put (f (set_at p₀ w a) (set_at p₀ w b)) w to p₀ p
put_combined {f} {g} {P} {w} {to} {a} {b} {p₀} {p} G gives C fits =
    put_words
    (λ j l. rw (gives _ _ _ (C.past j l)) (G.word (set_at p₀ w a) (set_at p₀ w b) j _ _ (word_at_row p₀ w a j l)
    (word_at_row p₀ w b j l) (C.small j l)))
    C.rest fits (G.ends (set_at p₀ w a) (set_at p₀ w b) (64 * w) (ends_set p₀ w a) (ends_set p₀ w b))
