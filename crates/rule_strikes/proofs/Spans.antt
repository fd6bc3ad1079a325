-- Laws of stretches of vertices, of sets cut and joined piece by piece, and of a row that is written more than once.
use Rattle.std.proofs.Common.{◌≡◌, refl, sym, ap, ◌∙◌, Bool, true, false, not, ◌&&◌, ◌||◌, List, ℕ, ◌+◌, ◌≤◌, ◌<◌, arith, eqb, leb, eqb-true, ltb-true, leb-true, eq-eqb, ne_eqb, lt-ltb, le-leb}
use mathlib.Core.Path.{fun_ext}
use native.Mathlib.Decide.{ℕ_discrete, dec_lt}
use Rattle.sets.specs.Sets.{Set, ◌⊆◌, ◌∩◌, ◌∪◌, ◌∖◌, nothing, just, whole}
use Rattle.sets.proofs.Tests.{clash, is_false, iff, and_l, and_r, and_in, or_l, or_r}
use Rattle.sets.proofs.Sets.{join_assoc}
use Rattle.rows.specs.Rows.{set_at, Put}
use Rattle.rows.proofs.Rows.{outside_none, outside_then}
use Rattle.rule_strikes.specs.Strikes.{stretch}

-- stretches

pub stretch_in : (a b v : ℕ) → a ≤ v → v < b → stretch a b v ≡ true
unfolding stretch
stretch_in a b v h l = and_in (le-leb a v h) (lt-ltb v b l)

pub stretch_out : (a b v : ℕ) → stretch a b v ≡ true → (a ≤ v) × (v < b)
unfolding stretch
stretch_out a b v h = (leb-true a v (and_l (leb a v) _ h), ltb-true v b (and_r (leb a v) _ h))

pub stretch_none : (a : ℕ) → stretch a a ≡ nothing
unfolding nothing
stretch_none a = fun_ext (λ v. is_false (stretch a a v) (λ h. let o = stretch_out a a v h in omega arith))

pub stretch_more : (a v : ℕ) → a ≤ v → stretch a (v + 1) ≡ stretch a v ∪ just v
unfolding ◌∪◌ just
stretch_more a v h = fun_ext (λ x. go x (ℕ_discrete x v))
  where
    go : (x : ℕ) → Dec (x ≡ v) → stretch a (v + 1) x ≡ stretch a v x || eqb x v
    go x (yes e) = stretch_in a (v + 1) x (omega arith) (omega arith) ∙ sym (or_r (stretch a v x) (eq-eqb x v e))
    go x (no n) = rw (ne_eqb x v n) (iff _ _
        (λ e. let o = stretch_out a (v + 1) x e in or_l false (stretch_in a v x o.0 (omega arith)))
        (λ e. let o = stretch_out a v x (last (stretch a v x) e) in stretch_in a (v + 1) x o.0 (omega arith)))
      where
        last : (b : Bool) → b || false ≡ true → b ≡ true
        last true e = refl
        last false e = e

pub stretch_whole : (n : ℕ) → stretch 0 n ≡ whole n
unfolding whole stretch
stretch_whole n = fun_ext (λ v. rw (le-leb 0 v (omega arith)))

-- sets

pub none_join : (S : Set) → nothing ∪ S ≡ S
unfolding nothing ◌∪◌
none_join S = refl

pub join_none : (S : Set) → S ∪ nothing ≡ S
unfolding nothing ◌∪◌
join_none S = fun_ext (λ v. go (S v))
  where
    go : (a : Bool) → a || false ≡ a
    go true = refl
    go false = refl

pub cut_none : (S : Set) → S ∖ nothing ≡ S
unfolding nothing ◌∖◌
cut_none S = fun_ext (λ v. go (S v))
  where
    go : (a : Bool) → a && not false ≡ a
    go true = refl
    go false = refl

pub cut_cut : (S A B : Set) → S ∖ A ∖ B ≡ S ∖ (A ∪ B)
unfolding ◌∪◌ ◌∖◌
cut_cut S A B = fun_ext (λ v. go (S v) (A v) (B v))
  where
    go : (s a b : Bool) → (s && not a) && not b ≡ s && not (a || b)
    go true true b = refl
    go true false b = refl
    go false a b = refl

-- what is cut in part, where the rest of the part is there
pub cut_part : (S A C : Set) → A ∖ C ⊆ S → S ∖ (A ∩ C) ≡ (S ∖ A) ∪ (A ∖ C)
unfolding ◌∪◌ ◌∩◌ ◌∖◌
cut_part S A C f = fun_ext (λ v. go (S v) (A v) (C v) (f v))
  where
    go : (s a c : Bool) → (a && not c ≡ true → s ≡ true) → s && not (a && c) ≡ (s && not a) || (a && not c)
    go true true true f = refl
    go true true false f = refl
    go true false c f = refl
    go false true true f = refl
    go false true false f = clash false (f refl) refl
    go false false c f = refl

pub meet_inside : (A B : Set) → B ⊆ A → B ≡ A ∩ B
unfolding ◌∩◌
meet_inside A B f = fun_ext (λ v. go (A v) (B v) (f v))
  where
    go : (a b : Bool) → (b ≡ true → a ≡ true) → b ≡ a && b
    go true b f = refl
    go false true f = clash false (f refl) refl
    go false false f = refl

pub none_meet : (F : Set) → nothing ∩ F ≡ nothing
unfolding nothing ◌∩◌
none_meet F = refl

pub join_meet : (A B F : Set) → (A ∪ B) ∩ F ≡ (A ∩ F) ∪ (B ∩ F)
unfolding ◌∪◌ ◌∩◌
join_meet A B F = fun_ext (λ v. go (A v) (B v) (F v))
  where
    go : (a b f : Bool) → (a || b) && f ≡ (a && f) || (b && f)
    go true b true = refl
    go true true false = refl
    go true false false = refl
    go false b f = refl

-- a vertex, where a test of it holds or fails
pub just_yes : (v : ℕ) (F : Set) → F v ≡ true → just v ∩ F ≡ just v
unfolding just ◌∩◌
just_yes v F h = fun_ext (λ x. iff _ _ (and_l (eqb x v) (F x)) (λ e. and_in e (let q = eqb-true x v e in rw q h)))

pub just_no : (v : ℕ) (F : Set) → F v ≡ false → just v ∩ F ≡ nothing
unfolding just ◌∩◌ nothing
just_no v F h = fun_ext (λ x. go x (ℕ_discrete x v))
  where
    go : (x : ℕ) → Dec (x ≡ v) → eqb x v && F x ≡ false
    go x (yes e) = rw (e, h, eq-eqb v v refl)
    go x (no n) = rw (ne_eqb x v n)

-- a row that is written again

pub put_none : (w to : ℕ) (p : List ℕ) → Put (set_at p w to) w to p p
put_none w to p = record { here = refl; rest = outside_none _ _ p }

pub put_as : {S T : Set} {w to : ℕ} {p q : List ℕ} → S ≡ T → Put S w to p q → Put T w to p q
put_as e P = record { here = P.here ∙ e; rest = P.rest }

pub put_then : {S T : Set} {w to : ℕ} {p q r : List ℕ} (f : Set → Set) → Put S w to p q
    → Put (f (set_at q w to)) w to q r → f S ≡ T → Put T w to p r
put_then f P Q e = record { here = Q.here ∙ ap f P.here ∙ e; rest = outside_then P.rest Q.rest }

-- loops over a stretch: nothing done yet, and one vertex more

pub added_none : (w to a : ℕ) (p : List ℕ) → Put (set_at p w to ∪ stretch a a) w to p p
added_none w to a p = put_as (sym (ap (λ (X : Set). set_at p w to ∪ X) (stretch_none a) ∙ join_none (set_at p w to)))
    (put_none w to p)

pub added_more : {w to : ℕ} {p q r : List ℕ} (a v : ℕ) → a ≤ v → Put (set_at p w to ∪ stretch a v) w to p q
    → Put (set_at q w to ∪ just v) w to q r
    → Put (set_at p w to ∪ stretch a (v + 1)) w to p r
added_more {w} {to} {p} a v h P Q = put_then (λ S. S ∪ just v) P Q
    (join_assoc (set_at p w to) (stretch a v) (just v) ∙ ap (λ (X : Set). set_at p w to ∪ X) (sym (stretch_more a v h)))

pub taken_none : (w to a : ℕ) (p : List ℕ) → Put (set_at p w to ∖ stretch a a) w to p p
taken_none w to a p = put_as (sym (ap (λ (X : Set). set_at p w to ∖ X) (stretch_none a) ∙ cut_none (set_at p w to)))
    (put_none w to p)

pub taken_more : {w to : ℕ} {p q r : List ℕ} (a v : ℕ) → a ≤ v → Put (set_at p w to ∖ stretch a v) w to p q
    → Put (set_at q w to ∖ just v) w to q r
    → Put (set_at p w to ∖ stretch a (v + 1)) w to p r
taken_more {w} {to} {p} a v h P Q = put_then (λ S. S ∖ just v) P Q
    (cut_cut (set_at p w to) (stretch a v) (just v) ∙ ap (λ (X : Set). set_at p w to ∖ X) (sym (stretch_more a v h)))

-- only the vertices that pass a test
pub struck_none : (w to a : ℕ) (F : Set) (p : List ℕ) → Put (set_at p w to ∖ (stretch a a ∩ F)) w to p p
struck_none w to a F p = put_as
    (sym (ap (λ (X : Set). set_at p w to ∖ X) (ap (λ (X : Set). X ∩ F) (stretch_none a) ∙ none_meet F)
    ∙ cut_none (set_at p w to)))
    (put_none w to p)

pub struck_more : {w to : ℕ} {p q r : List ℕ} (a v : ℕ) (F : Set) → a ≤ v
    → Put (set_at p w to ∖ (stretch a v ∩ F)) w to p q
    → Put (set_at q w to ∖ (just v ∩ F)) w to q r → Put (set_at p w to ∖ (stretch a (v + 1) ∩ F)) w to p r
struck_more {w} {to} {p} a v F h P Q = put_then (λ S. S ∖ (just v ∩ F)) P Q
    (cut_cut (set_at p w to) (stretch a v ∩ F) (just v ∩ F)
    ∙ ap (λ (X : Set). set_at p w to ∖ X) (sym (ap (λ (X : Set). X ∩ F) (stretch_more a v h)
    ∙ join_meet (stretch a v) (just v) F)))

-- one vertex that passes, one that does not
pub struck_yes : {w to : ℕ} {p q : List ℕ} (v : ℕ) (F : Set) → F v ≡ true → Put (set_at p w to ∖ just v) w to p q
    → Put (set_at p w to ∖ (just v ∩ F)) w to p q
struck_yes {w} {to} {p} v F h P = put_as (ap (λ (X : Set). set_at p w to ∖ X) (sym (just_yes v F h))) P

pub struck_no : (w to v : ℕ) (F : Set) (p : List ℕ) → F v ≡ false → Put (set_at p w to ∖ (just v ∩ F)) w to p p
struck_no w to v F p h = put_as (sym (ap (λ (X : Set). set_at p w to ∖ X) (just_no v F h) ∙ cut_none (set_at p w to)))
    (put_none w to p)

-- the vertices from v to w that do not pass are passed over
pub struck_past : {p q : List ℕ} {w to : ℕ} (a v x : ℕ) (F : Set) → v ≤ x
    → ((i : ℕ) → v ≤ i → i < x → F i ≡ false)
    → Put (set_at p w to ∖ (stretch a v ∩ F)) w to p q → Put (set_at p w to ∖ (stretch a x ∩ F)) w to p q
unfolding ◌∩◌
struck_past {p} {w = w} {to = to} a v x F l h P = put_as (ap (λ (X : Set). set_at p w to ∖ X) (fun_ext same)) P
  where
    same : (i : ℕ) → stretch a v i && F i ≡ stretch a x i && F i
    same i = iff _ _
        (λ e. let o = stretch_out a v i (and_l (stretch a v i) _ e) in
        and_in (stretch_in a x i o.0 (omega arith)) (and_r (stretch a v i) _ e))
        (λ e. let o = stretch_out a x i (and_l (stretch a x i) _ e) in let f = and_r (stretch a x i) _ e in
        inside i o.0 o.1 f (dec_lt i v))
      where
        inside : (i : ℕ) → a ≤ i → i < x → F i ≡ true → Dec (i < v) → (stretch a v i && F i) ≡ true
        inside i b c f (yes d) = and_in (stretch_in a v i b d) f
        inside i b c f (no d) = clash (F i) f (h i (omega arith) c)

-- two tests that agree at the vertex
pub just_same : (v : ℕ) (F G : Set) → F v ≡ G v → just v ∩ F ≡ just v ∩ G
unfolding just ◌∩◌
just_same v F G h = fun_ext (λ x. go x (ℕ_discrete x v))
  where
    go : (x : ℕ) → Dec (x ≡ v) → eqb x v && F x ≡ eqb x v && G x
    go x (yes e) = rw (e, h)
    go x (no n) = rw (ne_eqb x v n)
