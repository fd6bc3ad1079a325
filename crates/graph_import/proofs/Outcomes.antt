-- The outcome of an import, cause by cause.
use Rattle.std.proofs.Common.{◌≡◌, refl, sym, ap, subst, ◌∙◌, Bool, true, false, ◌&&◌, Result, Ok, Err, List}
use Rattle.std.proofs.Common.{ℕ, ◌≤◌, ◌<◌, leb, eqb, lit<, length, take, length-take-le, eq-eqb, ne_eqb, le-leb, arith}
use Rattle.std.proofs.lemmas.Bool.{lt-leb}
use Rattle.sets.proofs.Tests.{and_in, and_false}
use Rattle.vset.specs.Words.{has}
use Rattle.sheet.specs.Sheet.{end_at}
use Rattle.sheet.proofs.Causes.{unless_true, unless_false}
use Rattle.zeros.specs.Zeros.{zeros}
use Rattle.output.specs.Output.{Wrote}
use Rattle.output.proofs.Wrote.{wrote_padded}
use Rattle.dimacs.specs.Reading.{vertices_of, Texts, malformed, clashed, texts, texts_of}
use Rattle.dimacs.specs.Made.{made_bytes, joined, pair_total, sheet_of}
use Rattle.dimacs.specs.Import.{text_graph, sheet_bytes, sheet_fits, texts_cause, sheet_by}
use Rattle.dimacs.specs.Import.{import_of, imported}
use Rattle.dimacs.proofs.Choices.{yes_is, no_is}
use Rattle.dimacs.proofs.Fields.{sections}
use Rattle.graph_read.specs.Graphs.{Links, TextsTold}
use Rattle.graph_read.specs.declared.GraphSizes.{GraphSizes}
use Rattle.graph_read.specs.declared.TextsRefusal.{TextsRefusal}
use Rattle.graph_read.proofs.Firsts.{all_first}
use Rattle.graph_sheet.specs.Pairs.{GraphIn, TotalsOf, counts_in, adjacent_in}
use Rattle.graph_sheet.specs.declared.joins.Totals.{Totals}
use Rattle.graph_import.specs.Gives.{of_texts, import_number, most_sheet, ImportGives}
use Rattle.graph_import.specs.declared.ImportRefusal.{ImportRefusal}

-- the outcome by what was read
pub outcome_is : (text sizes : List ℕ) (room : ℕ) (w : Texts) → texts_of text sizes ≡ w
    → imported text sizes room ≡ import_of w room
unfolding imported
outcome_is text sizes room w e = ap (λ x. import_of x room) e

-- the answer
abbrev Answer : Type 0
Answer = Result ℕ ImportRefusal

-- a refusal: its number, no length and zeros
module _ (room : ℕ) {S : List ℕ} (x : S ≡ zeros room) where
  refused_gives : (w : Texts) (a : ImportRefusal) (m : ℕ) → texts_cause w room ≡ m → 0 < m → import_number (Err a) ≡ m
      → ImportGives (import_of w room) (Err a) S
  unfolding import_of
  refused_gives w a m e o n =
      let other = ne_eqb (texts_cause w room) 0 (λ i. omega arith) in
      subst (λ z. ImportGives z (Err a) S) (sym (no_is (eqb (texts_cause w room) 0) _ _ other)) (record {
        answer = n ∙ sym e;
        length = refl;
        sheet = x;
        few = omega arith;
      })

  malformed_gives : ImportGives (import_of malformed room) (Err ImportRefusal.Malformed) S
  unfolding texts_cause
  malformed_gives = refused_gives malformed ImportRefusal.Malformed 13 refl (lit< tt) refl

  clashing_gives : ImportGives (import_of clashed room) (Err ImportRefusal.Clashing) S
  unfolding texts_cause
  clashing_gives = refused_gives clashed ImportRefusal.Clashing 14 refl (lit< tt) refl

-- a graph that was read, in words
module _ (counts codes : List ℕ) {s : GraphSizes} {len : ℕ} (G : GraphIn counts s len) (room : ℕ) where
  abbrev cs : List ℕ
  cs = counts_in counts s

  abbrev E : ℕ → Bool
  E = has codes

  abbrev adj : ℕ → ℕ → Bool
  adj = text_graph cs E

  links : s.links ≡ length cs
  links = sym (length-take-le s.links counts G.links.room)

  vertices : s.vertices ≡ vertices_of cs
  vertices = G.vertices ∙ all_first counts s.links G.links.room

  module _ {t : Totals} (T : TotalsOf cs (adjacent_in codes s) t) where
    -- the bytes of the sheet
    abbrev bytes : ℕ
    bytes = end_at made_bytes s.links s.vertices t.rules t.pairs

    all : TotalsOf cs adj t
    all = subst (λ m. TotalsOf cs (joined m E) t) vertices T

    bytes_are : sheet_bytes cs E ≡ bytes
    unfolding sheet_bytes
    bytes_are = omega (arith, links, vertices, all.rules, all.pairs)

    short_gives : {S : List ℕ} → sheet_fits cs E room ≡ false → S ≡ zeros room
        → ImportGives (import_of (texts cs E) room) (Err ImportRefusal.Short) S
    unfolding texts_cause
    short_gives e x =
        let cause = sym (unless_false (sheet_fits cs E room) 15 e) in
        refused_gives room x (texts cs E) ImportRefusal.Short 15 cause (lit< tt) refl

    pub many_gives : {S : List ℕ} → 8192 < t.pairs → S ≡ zeros room
        → ImportGives (import_of (texts cs E) room) (Err ImportRefusal.Short) S
    unfolding sheet_fits
    many_gives h x =
        let many = lt-leb (pair_total cs adj) 8192 (omega (arith, all.pairs)) in
        short_gives (ap (λ b. b && leb (sheet_bytes cs E) room) many) x

    pub long_gives : {S : List ℕ} → room < bytes → S ≡ zeros room
        → ImportGives (import_of (texts cs E) room) (Err ImportRefusal.Short) S
    unfolding sheet_fits
    long_gives h x =
        let long = lt-leb (sheet_bytes cs E) room (omega (arith, bytes_are)) in
        short_gives (and_false (leb (pair_total cs adj) 8192) (leb (sheet_bytes cs E) room) long) x

    -- the sheet, whole
    module _ {S S₁ : List ℕ} {e : ℕ} (few : t.pairs ≤ 8192) (fits : bytes ≤ room) (z : S ≡ zeros room)
        (w : Wrote (sheet_of cs (adjacent_in codes s)) S 0 S₁ e) where
      put : Wrote (sheet_of cs adj) S 0 S₁ e
      put = subst (λ m. Wrote (sheet_of cs (joined m E)) S 0 S₁ e) vertices w

      fit : sheet_fits cs E room ≡ true
      unfolding sheet_fits
      fit =
          and_in
          (le-leb (pair_total cs adj) 8192 (omega (arith, all.pairs)))
          (le-leb (sheet_bytes cs E) room (omega (arith, bytes_are)))

      short : length (sheet_of cs adj) ≤ room
      short = omega (arith, (sections cs adj).long, links, vertices, all.rules, all.pairs)

      few_bytes : e ≤ most_sheet
      few_bytes =
          let l = (sections cs adj).long in
          let v = G.vertices in
          let m = G.links.few in
          omega (arith, put.end, l, links, vertices, v, m, G.links.links, all.rules, all.pairs, T.rules_few)

      pub sheet_gives : ImportGives (import_of (texts cs E) room) (Ok e) S₁
      unfolding import_of texts_cause sheet_by
      sheet_gives =
          let none = eq-eqb (texts_cause (texts cs E) room) 0 (sym (unless_true (sheet_fits cs E room) 15 fit)) in
          let is = yes_is (eqb (texts_cause (texts cs E) room) 0) _ _ none in
          subst (λ o. ImportGives o (Ok e) S₁) (sym is) (record {
            answer = refl;
            length = omega (arith, put.end);
            sheet = wrote_padded room put z short;
            few = few_bytes;
          })

-- what was told of both texts
told_bad : (w : Texts) (counts codes : List ℕ) → TextsTold w counts codes (Err TextsRefusal.Malformed) → w ≡ malformed
told_bad malformed counts codes t = refl
told_bad clashed counts codes t = cc
told_bad (texts cs E) counts codes t = let e = t.is in cc

told_clash : (w : Texts) (counts codes : List ℕ) → TextsTold w counts codes (Err TextsRefusal.Clashing) → w ≡ clashed
told_clash malformed counts codes t = cc
told_clash clashed counts codes t = refl
told_clash (texts cs E) counts codes t = let e = t.is in cc

-- the graph that was told
pub record GraphTold (w : Texts) (counts codes : List ℕ) (s : GraphSizes) : Type 0 where
  pub is : w ≡ texts (counts_in counts s) (has codes)
  pub graph : (len : ℕ) → len ≡ 4096 → GraphIn counts s len

same_sizes : {s t : GraphSizes} → ◌≡◌ {A = Result GraphSizes TextsRefusal} (Ok s) (Ok t) → s ≡ t
same_sizes e = cc

told_graph : (w : Texts) (counts codes : List ℕ) (s : GraphSizes) → TextsTold w counts codes (Ok s)
    → GraphTold w counts codes s
told_graph malformed counts codes s t = cc
told_graph clashed counts codes s t = cc
told_graph (texts cs E) counts codes s t =
    let e = same_sizes t.is in
    let a : length cs ≡ s.links = sym (ap (λ (i : GraphSizes). i.links) e) in
    let b : vertices_of cs ≡ s.vertices = sym (ap (λ (i : GraphSizes). i.vertices) e) in
    let L = subst (Links counts) a t.links in
    let c : cs ≡ take s.links counts = sym t.are ∙ ap (λ i. take i counts) a in
    record {
      is = ap (λ x. texts x E) c ∙ ap (texts (take s.links counts)) (sym t.edges);
      graph = λ len q. record {
        links = L;
        vertices = sym b ∙ ap vertices_of c ∙ sym (all_first counts s.links L.room);
        room = q;
      };
    }

gives_by : (text sizes : List ℕ) {S : List ℕ} {r : Answer} (room : ℕ) (w : Texts) → texts_of text sizes ≡ w
    → ImportGives (import_of w room) r S → ImportGives (imported text sizes room) r S
gives_by text sizes {S} {r} room w e g = subst (λ o. ImportGives o r S) (sym (outcome_is text sizes room w e)) g

module _ (text sizes counts codes : List ℕ) where
  abbrev Told : Result GraphSizes TextsRefusal → Type 0
  Told t = TextsTold (texts_of text sizes) counts codes t

  pub graph_told : {s : GraphSizes} {t : Result GraphSizes TextsRefusal} → Told t → t ≡ Ok s
      → GraphTold (texts_of text sizes) counts codes s
  graph_told {s} u e = told_graph (texts_of text sizes) counts codes s (subst Told e u)

  pub graph_gives : (room : ℕ) {S : List ℕ} {s : GraphSizes} {r : Answer} → GraphTold (texts_of text sizes) counts codes s
      → ImportGives (import_of (texts (counts_in counts s) (has codes)) room) r S
      → ImportGives (imported text sizes room) r S
  graph_gives room {S} {s} t g = gives_by text sizes room (texts (counts_in counts s) (has codes)) t.is g

  module _ {S : List ℕ} (z : S ≡ zeros (length S)) where
    texts_gives : (e : TextsRefusal) → Told (Err e) → ImportGives (imported text sizes (length S)) (Err (of_texts e)) S
    texts_gives TextsRefusal.Malformed t =
        gives_by text sizes (length S) malformed (told_bad (texts_of text sizes) counts codes t) (malformed_gives (length S) z)
    texts_gives TextsRefusal.Clashing t =
        gives_by text sizes (length S) clashed (told_clash (texts_of text sizes) counts codes t) (clashing_gives (length S) z)

    pub refusal_gives : {e : TextsRefusal} {t : Result GraphSizes TextsRefusal} → Told t → t ≡ Err e
        → ImportGives (imported text sizes (length S)) (Err (of_texts e)) S
    refusal_gives {e} u q = texts_gives e (subst Told q u)

-- by the length of the output
pub gives_sized : (text sizes : List ℕ) {S : List ℕ} {l m : ℕ} {r : Answer} → l ≡ m
    → ImportGives (imported text sizes l) r S → ImportGives (imported text sizes m) r S
gives_sized text sizes {S} {l} {m} {r} e g = subst (λ x. ImportGives (imported text sizes x) r S) e g
