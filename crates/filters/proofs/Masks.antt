-- What the words of a node say of the classes of the graph that they hold.
use Rattle.std.proofs.Common.{◌≡◌, sym, ap, ◌∙◌, Bool, true, false, ◌&&◌, List, ℕ, ◌+◌, ◌*◌, ◌≤◌, ◌<◌, arith, eqb, length, eqb-true, eq-eqb}
use Rattle.sets.specs.Below.{count}
use Rattle.sets.specs.Sets.{◌∩◌}
use Rattle.sets.proofs.Tests.{clash, is_false}
use Rattle.sets.proofs.Below.{count_same}
use Rattle.sets.proofs.Sets.{meet_l, meet_r, meet_in}
use Rattle.rows.specs.Rows.{set_at, row_at, Begins}
use Rattle.vset.proofs.Count.{count_gap}
use Rattle.cliques.specs.Graph.{Graph, At, in_class, size, some, is_open}
use Rattle.cliques.specs.Words.{own_row, Room, Node}
use Rattle.cliques.proofs.Graph.{some_in, lower_at, open_in, open_out}
use Rattle.cliques.specs.declared.Place.{Place}

module _ {G : Graph} {d : ℕ} {place : Place} {p : List ℕ} (N : Node G d place p) where
  open place use {w, masks, n, k}

  -- a live vertex in the mask of a class is a live vertex of the class
  pub seen_at : (c v : ℕ) → c < k → (own_row place p ∩ row_at p w masks c) v ≡ true → At G c v (own_row place p)
  seen_at c v l h =
      let a = meet_l (own_row place p) (row_at p w masks c) v h in
      let b = meet_r (own_row place p) (row_at p w masks c) v h in
      let r = (N.live v a).0 in
      record {
        lt = r;
        live = a;
        cl = eqb-true (G.cls v) c (sym (N.held.mask c v l (omega (arith, N.held.size))) ∙ b);
      }

  pub at_seen : (c v : ℕ) → c < k → At G c v (own_row place p) → (own_row place p ∩ row_at p w masks c) v ≡ true
  at_seen c v l a = meet_in (own_row place p) (row_at p w masks c) v a.live
      (N.held.mask c v l (omega (arith, N.held.size, a.lt)) ∙ eq-eqb (G.cls v) c a.cl)

  pub none_some : (c : ℕ) → c < k → ((v : ℕ) → (own_row place p ∩ row_at p w masks c) v ≡ false)
      → some G c (own_row place p) ≡ false
  none_some c l h = is_false (some G c (own_row place p))
      (λ t. clash ((own_row place p ∩ row_at p w masks c) _) (at_seen c _ l (lower_at G c _ t)) (h _))

  -- open, where a vertex was seen in each class; not open, where a class has none
  pub all_seen : ((x : ℕ) → d ≤ x → x < k → (v : ℕ) × ((own_row place p ∩ row_at p w masks x) v ≡ true))
      → true ≡ is_open G d (own_row place p)
  all_seen f = sym (open_in G d (own_row place p) (λ c a b. let l : c < k = omega (arith, N.held.classes) in
      some_in G c (f c a l).0 (own_row place p) (seen_at c (f c a l).0 l (f c a l).1)))

  pub one_empty : (c : ℕ) → d ≤ c → c < k → ((v : ℕ) → (own_row place p ∩ row_at p w masks c) v ≡ false)
      → false ≡ is_open G d (own_row place p)
  one_empty c a l h = sym (is_false (is_open G d (own_row place p))
      (λ t. clash (some G c (own_row place p)) (open_out G d _ t c a (omega (arith, N.held.classes)))
      (none_some c l h)))

  -- what the own row and a mask have in common is what is live of the class
  pub size_words : (c : ℕ) → c < k → n ≤ 64 * w → count (64 * w) (own_row place p ∩ row_at p w masks c)
      ≡ size G c (own_row place p)
  unfolding ◌∩◌ size in_class
  size_words c l h =
      count_gap (own_row place p ∩ row_at p w masks c) n (64 * w) h
      (λ v a b. is_false _ (λ t. let r = (N.live v (meet_l (own_row place p) (row_at p w masks c) v t)).0 in
      omega (arith, N.held.size)))
      ∙ count_same n _ _ (λ v m. ap (λ (b : Bool). own_row place p v && b) (N.held.mask c v l m))
      ∙ ap (λ (j : ℕ). count j (λ v. own_row place p v && eqb (G.cls v) c)) (sym N.held.size)

-- the live vertices of class c were counted: its mask is at m, and x of its vertices are live
pub record Counted (s : ℕ) (place : Place) (c m x : ℕ) (p : List ℕ) : Type 0 where
  pub room : Room s place (length p)
  pub upto : c < place.k
  pub mask : m ≡ place.masks + c * place.w
  pub is : x ≡ count (64 * place.w) (own_row place p ∩ set_at p place.w m)

pub counted : (p : List ℕ) {s : ℕ} {place : Place} {c m x : ℕ} → Room s place (length p) → c < place.k
    → Begins place.masks place.w c place.k m
    → x ≡ count (64 * place.w) (own_row place p ∩ set_at p place.w m) → Counted s place c m x p
counted p R l b h = record { room = R; upto = l; mask = b.here; is = h }

module _ {s : ℕ} {place : Place} {c m x : ℕ} {p : List ℕ} (C : Counted s place c m x p) where
  open place use {w, masks}

  -- in the mask is in the row at m
  pub in_mask : own_row place p ∩ set_at p w m ≡ own_row place p ∩ row_at p w masks c
  in_mask = ap (λ (i : ℕ). own_row place p ∩ set_at p w i) C.mask

  pub counted_size : {G : Graph} {d : ℕ} → Node G d place p → size G c (own_row place p) ≡ x
  counted_size N = sym (size_words N c C.upto C.room.wide) ∙ sym (ap (count (64 * w)) in_mask) ∙ sym C.is
