-- Choices by what was read: what holds on each side, and the turn of a reader that goes on.
use mathlib.Core.Path.{◌≡◌, refl, ap, ◌∙◌}
use mathlib.Core.Bool.{Bool, true, false, ◌||◌}
use mathlib.Core.List.{List, [], ◌∷◌, ◌++◌}
use Prim.Native.Nat.{ℕ, suc, ◌+◌, ◌*◌}
use Rattle.sets.specs.Sets.{Set, ◌∪◌, just}
use Rattle.dimacs.specs.Reading.{Number, no_number, number, field, newline, is_empty, vertices_of, count_fits}
use Rattle.dimacs.specs.Reading.{no_counts, counts_from, Line, no_line, an_edge, edge_line, clashes}
use Rattle.dimacs.specs.Reading.{edges, edges_from}

-- a choice by what was read has a property if each side has it
pub number_case {ℓ ℓ'} : {A : Type ℓ} (P : A → Type ℓ') (r : Number) (x : A) (f : ℕ → List ℕ → A) → (r ≡ no_number → P x)
    → ((v : ℕ) (s : List ℕ) → r ≡ number v s → P (f v s))
    → P (elim r [ no_number ↦ x | number v s ↦ f v s ])
number_case P no_number x f p q = p refl
number_case P (number v s) x f p q = q v s refl

pub line_case {ℓ ℓ'} : {A : Type ℓ} (P : A → Type ℓ') (r : Line) (x : A) (f : ℕ → ℕ → List ℕ → A) → (r ≡ no_line → P x)
    → ((u v : ℕ) (s : List ℕ) → r ≡ an_edge u v s → P (f u v s))
    → P (elim r [ no_line ↦ x | an_edge u v s ↦ f u v s ])
line_case P no_line x f p q = p refl
line_case P (an_edge u v s) x f p q = q u v s refl

pub yes_is {ℓ} : {A : Type ℓ} (b : Bool) (x y : A) → b ≡ true → elim b [ true ↦ x | false ↦ y ] ≡ x
yes_is b x y e = ap (λ c. elim c [ true ↦ x | false ↦ y ]) e

pub no_is {ℓ} : {A : Type ℓ} (b : Bool) (x y : A) → b ≡ false → elim b [ true ↦ x | false ↦ y ] ≡ y
no_is b x y e = ap (λ c. elim c [ true ↦ x | false ↦ y ]) e

pub number_is {ℓ} : {A : Type ℓ} (w : Number) (x : A) (f : ℕ → List ℕ → A) (v : ℕ) (s : List ℕ) → w ≡ number v s
    → elim w [ no_number ↦ x | number v s ↦ f v s ] ≡ f v s
number_is w x f v s e = ap (λ c. elim c [ no_number ↦ x | number v s ↦ f v s ]) e

pub edge_is {ℓ} : {A : Type ℓ} (w : Line) (x : A) (f : ℕ → ℕ → List ℕ → A) (u v : ℕ) (s : List ℕ) → w ≡ an_edge u v s
    → elim w [ no_line ↦ x | an_edge u v s ↦ f u v s ] ≡ f u v s
edge_is w x f u v s e = ap (λ c. elim c [ no_line ↦ x | an_edge u v s ↦ f u v s ]) e

-- one count more, where it fits
pub counts_tried : (turns : ℕ) (cs s : List ℕ) (c : ℕ) (r : List ℕ) → is_empty s ≡ false
    → field [] newline s ≡ number c r
    → counts_from (suc turns) cs s
    ≡ elim (count_fits cs c) [ true ↦ counts_from turns (cs ++ (c ∷ [])) r | false ↦ no_counts ]
unfolding counts_from
counts_tried turns cs s c r e f = no_is (is_empty s) _ _ e ∙ number_is (field [] newline s) _ _ c r f

pub counts_turn : (turns : ℕ) (cs s : List ℕ) (c : ℕ) (r : List ℕ) → is_empty s ≡ false → field [] newline s ≡ number c r
    → count_fits cs c ≡ true
    → counts_from (suc turns) cs s ≡ counts_from turns (cs ++ (c ∷ [])) r
counts_turn turns cs s c r e f g = counts_tried turns cs s c r e f ∙ yes_is (count_fits cs c) _ _ g

-- one edge more
pub edges_turn : (cs : List ℕ) (turns m : ℕ) (E : Set) (x : Bool) (s : List ℕ) (u v : ℕ) (r : List ℕ)
    → is_empty s ≡ false → edge_line (vertices_of cs) s ≡ an_edge u v r
    → edges_from cs (suc turns) m E x s ≡ edges_from cs turns (m + 1) (E ∪ just (u * vertices_of cs + v))
    (x || clashes cs E u v) r
unfolding edges_from
edges_turn cs turns m E x s u v r e f = no_is (is_empty s) _ _ e ∙ edge_is (edge_line (vertices_of cs) s) _ _ u v r f
