-- The outcome of the call, cause by cause.
use Rattle.std.proofs.Common.{◌≡◌, refl, sym, ap, subst, ◌∙◌, Bool, true, false, ◌&&◌, Ok, Err, List, ◌⊎◌, ⊎_elim}
use Rattle.std.proofs.Common.{ℕ, ◌*◌, ◌≤◌, ◌<◌, ltb, leb, length, take, lt-ltb, le-leb, arith}
use Rattle.std.proofs.lemmas.Bool.{lt-leb}
use Rattle.sets.proofs.Tests.{and_in, and_false}
use Rattle.vset.specs.Words.{has}
use Rattle.zeros.specs.Zeros.{zeros}
use Rattle.zeros.proofs.Zeros.{zero_length}
use Rattle.output.specs.Output.{Wrote}
use Rattle.output.proofs.Wrote.{wrote_padded, wrote_same}
use Rattle.dimacs.specs.Reading.{first_of}
use Rattle.dimacs.specs.Made.{joined, pair_total, sheet_of}
use Rattle.dimacs.proofs.Choices.{yes_is, no_is}
use Rattle.dimacs.proofs.Fields.{sections}
use Rattle.dimacs.proofs.Few.{rules_few}
use Rattle.graph_sheet.specs.Pairs.{GraphIn, TotalsOf}
use Rattle.graph_read.specs.declared.GraphSizes.{GraphSizes}
use Rattle.graph_sheet.specs.declared.joins.Totals.{Totals}
use Rattle.heaviest_sheet.specs.Written.{links, graph, sheet}
use Rattle.heaviest_sheet.specs.Call.{sizes_ok, SizesFit, in_range, heaviest_of}
use Rattle.heaviest_sheet.proofs.Sizes.{sizes}
use Rattle.heaviest_sheet.proofs.Links.{links_length, links_first, links_vertices, links_small}
use Rattle.heaviest_sheet.proofs.FewPairs.{few_pairs}
use Rattle.heaviest.specs.Gives.{HeaviestGives}
use Rattle.heaviest.specs.declared.HeaviestRefusal.TheVariants.{OutOfRange}

-- the test of the sizes
module _ (k m : ℕ) where
  no_links : k ≡ 0 → false ≡ sizes_ok k m
  unfolding sizes_ok
  no_links e = rw e refl

  no_freqs : m ≡ 0 → false ≡ sizes_ok k m
  unfolding sizes_ok
  no_freqs e = rw e (sym (ap (λ b. b && (leb k 64 && leb (k * 0) 512)) (and_false (ltb 0 k) false refl)))

  many_links : 64 < k → false ≡ sizes_ok k m
  unfolding sizes_ok
  many_links h = rw (lt-leb k 64 h) (sym (and_false (ltb 0 k && ltb 0 m) false refl))

  pub sizes_not : {r : Bool} → r ≡ false
      → ((k ≡ 0 → ⊥) × (m ≡ 0 → ⊥) × (64 < k)) ⊎ (((k ≡ 0 → ⊥) × (m ≡ 0)) ⊎ (k ≡ 0)) → r ≡ sizes_ok k m
  sizes_not f h = f ∙ ⊎_elim (λ a. many_links a.2) (⊎_elim (λ b. no_freqs b.1) no_links) h

  pub sizes_are : (k ≡ 0 → ⊥) → (m ≡ 0 → ⊥) → k ≤ 64 → leb (k * m) 512 ≡ sizes_ok k m
  unfolding sizes_ok
  sizes_are a b h = rw (lt-ltb 0 k (omega arith), lt-ltb 0 m (omega arith), le-leb k 64 h) refl

-- the graph in words
module _ (k m : ℕ) (Z : SizesFit k m) (counts : List ℕ) (e : take k counts ≡ links k m) where
  abbrev s : GraphSizes
  s = record { links = k; vertices = k * m }

  first_all : first_of (take k counts) k ≡ k * m
  first_all = ap (λ l. first_of l k) e ∙ links_first k m k (omega arith)

  pub graph_in_lem : (len : ℕ) → length counts ≡ 64 → len ≡ 4096 → GraphIn counts s len
  graph_in_lem len room q = record {
    links = record {
      some = Z.k_some;
      links = Z.k_few;
      room = omega (arith, Z.k_few);
      few = omega (arith, first_all, Z.few);
    };
    vertices = sym first_all;
    room = q;
  }

  module _ (codes : List ℕ) (g : joined (k * m) (has codes) ≡ graph k m) where
    pub totals_few : {t : Totals} → TotalsOf (take k counts) (joined (k * m) (has codes)) t → t.pairs ≤ 8192
    totals_few T =
        omega (
          arith,
          T.pairs,
          ap (λ l. pair_total l (joined (k * m) (has codes))) e,
          ap (pair_total (links k m)) g,
          few_pairs k m Z,
        )

    pub sheet_put : {o p : List ℕ} {r : ℕ} → Wrote (sheet_of (take k counts) (joined (k * m) (has codes))) o 0 p r
        → Wrote (sheet k m) o 0 p r
    unfolding sheet
    sheet_put w =
        wrote_same (ap (λ l. sheet_of l (joined (k * m) (has codes))) e ∙ ap (sheet_of (links k m)) g) w

sheet_few : (k m : ℕ) → SizesFit k m → length (sheet k m) ≤ 65536
unfolding sheet
sheet_few k m Z =
    let cs = links k m in
    let adj = graph k m in
    let l = links_length k m in
    let v = links_vertices k m in
    let r = rules_few cs adj (links_small k m Z) in
    let p = few_pairs k m Z in
    omega (arith, (sections cs adj).long, Z.k_few, Z.few)

-- a refusal, and the sheet
module _ (k m : ℕ) {b : List ℕ} (room : ℕ) (z : b ≡ zeros room) where
  refused_gives : in_range k m room ≡ false → HeaviestGives (heaviest_of k m room) (Err OutOfRange) b
  unfolding heaviest_of
  refused_gives e =
      subst (λ o. HeaviestGives o (Err OutOfRange) b) (sym (no_is (in_range k m room) _ _ e))
      (record { answer = refl; length = refl; bytes = z; few = omega arith })

  module _ {t : Bool} (e : t ≡ sizes_ok k m) where
    pub sizes_gives : t ≡ false → HeaviestGives (heaviest_of k m room) (Err OutOfRange) b
    unfolding in_range
    sizes_gives f = refused_gives (ap (λ x. x && leb 65536 room) (sym e ∙ f))

    pub short_gives : length b < 65536 → HeaviestGives (heaviest_of k m room) (Err OutOfRange) b
    unfolding in_range
    short_gives h =
        let short = lt-leb 65536 room (omega (arith, zero_length b room z)) in
        refused_gives (and_false (sizes_ok k m) (leb 65536 room) short)

    pub sizes_fit : t ≡ true → SizesFit k m
    sizes_fit f = sizes k m (sym e ∙ f)

    pub sheet_gives : {a : List ℕ} {l : ℕ} → t ≡ true → 65536 ≤ length b → Wrote (sheet k m) b 0 a l
        → HeaviestGives (heaviest_of k m room) (Ok l) a
    unfolding heaviest_of
    sheet_gives {a} {l} f h w =
        let o = zero_length b room z in
        let few = sheet_few k m (sizes_fit f) in
        let y : in_range k m room ≡ true =
        unfold in_range in and_in (sym e ∙ f) (le-leb 65536 room (omega arith)) in
        subst (λ o. HeaviestGives o (Ok l) a) (sym (yes_is (in_range k m room) _ _ y))
        (record {
          answer = refl;
          length = omega (arith, w.end);
          bytes = wrote_padded room w z (omega arith);
          few = omega (arith, w.end);
        })
