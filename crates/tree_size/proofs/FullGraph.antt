-- A graph whose tree is as large as it can be.
use mathlib.Core.Path.{◌≡◌}
use mathlib.Core.Bool.{true, false}
use Prim.Native.Nat.{ℕ, suc, ◌+◌, ◌*◌, ◌≤◌, ◌<◌}
use lib.Dec.{eqb}
use Rattle.cliques.specs.Graph.{Graph}

-- classes 0 to z of m vertices each, one after another; x is the last vertex of all. Before class z all vertices of
-- different classes are adjacent. To x only the last of each class is, so that only the last path leads to a plan. The
-- first of class z is adjacent to all but the class before it, so that class z is not empty too early; that class is
-- adjacent to no vertex of class z but x
pub record FullGraph (G : Graph) (m z x : ℕ) : Type 0 where
  pub classes : G.k ≡ suc z
  pub size : G.n ≡ z * m + m
  pub end : G.n ≡ suc x
  pub some : 0 < m
  pub class : (c v : ℕ) → c ≤ z → c * m ≤ v → v < c * m + m → G.cls v ≡ c
  pub place : (v : ℕ) → v < G.n → (G.cls v ≤ z) × (G.cls v * m ≤ v) × (v < G.cls v * m + m)
  pub early : (u v : ℕ) → u < G.n → v < G.n → G.cls u < G.cls v → G.cls v < z → G.adj u v ≡ true
  pub last : (u : ℕ) → u < G.n → G.cls u < z → G.adj u x ≡ eqb (suc u) (G.cls u * m + m)
  pub first : (u : ℕ) → u < G.n → suc (G.cls u) < z → G.adj u (z * m) ≡ true
  pub other : (u v : ℕ) → u < G.n → v < G.n → suc (G.cls u) ≡ z → G.cls v ≡ z → (v ≡ x → ⊥) → G.adj u v ≡ false
