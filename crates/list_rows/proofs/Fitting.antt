-- What rows ask, where they are met.
use Rattle.std.proofs.Common.{◌≡◌, ℕ, Option, None, Bool, true, false, List, [], ◌∷◌, ◌++◌, length, refl, subst}
use Rattle.std.specs.Prelude.{if◌then◌else◌}
use Rattle.rpy_tree.specs.declared.program.ClassInfo.{ClassInfo}
use Rattle.rpy_meaning.specs.declared.row.RowOp.{RowOp}
use Rattle.class_desc.specs.Tables.{Tables}
use Rattle.ann_lattice.specs.Assign.{Assignment, Under}
use Rattle.ann_lattice.specs.Join.{is_clash}
use Rattle.ann_lattice.specs.Kind.{misfit, given, some_nothing, some_clash}
use Rattle.ann_lattice.specs.Order.{Below}
use Rattle.ann_lattice.specs.Order as order
use Rattle.ann_lattice.specs.Row.{fitting, pieces}
use Rattle.ann_lattice.specs.Shape.{Shape, Nothing, Truth, Num, Lst}
use Rattle.ann_element.specs.Sites.{Same}
use Rattle.ann_rules.specs.Asks.{parts}
use Rattle.ann_rules.specs.Program.{Whole}
use Rattle.ann_rules.specs.Rules.{is_unfit, pieces_for}
use Rattle.sound_rows.specs.Sound.{Fits}
use Rattle.sound_rows.proofs.Tools.{above_clash}

module _ (k : List ClassInfo) (s : List ℕ) where
  pub under_both : (xs ys : List Shape) (z : Shape) → Under k s (xs ++ ys) z → Under k s xs z × Under k s ys z
  under_both [] ys z h = (tt, h)
  under_both (x ∷ xs) ys z h = (let it = under_both xs ys z h.1 in ((h.0, it.0), it.1))

  pub no_misfit : {A : Type 0} (z : Shape) → Below k s misfit z → is_clash z ≡ false → A
  no_misfit z h free = absurd (above_clash k s misfit z h refl free)

  pub given_fits : (b : Bool) (x z : Shape) → Below k s (given b x) z → is_clash z ≡ false → (b ≡ true) × Below k s x z
  given_fits true x z h free = (refl, h)
  given_fits false x z h free = no_misfit z h free

  pub pieces_fit : (t : Tables) (o : RowOp) (xs : List Shape) (p z : Shape) → some_nothing xs ≡ false → is_clash z ≡ false → Under k s (pieces t o xs p) z → Under k s (fitting t o xs p) z
  pieces_fit t o xs p z some free under = by (some_clash xs) (subst (λ (b : Bool). Under k s (if b then [] else if some_clash xs then misfit ∷ [] else fitting t o xs p) z) some under)
    where
      by : (b : Bool) → Under k s (if b then misfit ∷ [] else fitting t o xs p) z → Under k s (fitting t o xs p) z
      by true h = no_misfit z h.0 free
      by false h = h

  -- ---- what is above

  pub record AboveLists (site : ℕ) (r : Bool) (z : Shape) : Type 0 where
    pub own : ℕ
    pub or_none : Bool
    pub is : z ≡ Lst own or_none
    pub one : Same s site own
    pub wider : order.Implies r or_none

  pub above_lists : (site : ℕ) (r : Bool) (z : Shape) → Below k s (Lst site r) z → is_clash z ≡ false → AboveLists site r z
  above_lists site r _ (order.list s u a b one wider) free = record { own = u; or_none = b; is = refl; one = one; wider = wider }
  above_lists site r _ (order.clash x o p h j) free = absurd (let q : true ≡ false = free in cc)

  pub above_words : (b : Bool) (z : Shape) → Below k s (Num b) z → is_clash z ≡ false → (c : Bool) × (z ≡ Num c)
  above_words b _ (order.num a c wider) free = (c, refl)
  above_words b _ (order.clash x o p h j) free = absurd (let q : true ≡ false = free in cc)

  pub above_truths : (z : Shape) → Below k s (Truth None) z → is_clash z ≡ false → (b : Option Bool) × (z ≡ Truth b)
  above_truths _ (order.truth a b less) free = (b, refl)
  above_truths _ (order.clash x o p h j) free = absurd (let q : true ≡ false = free in cc)

module _ (w : Whole) (a : Assignment) (g node : ℕ) (o : RowOp) (xs : List Shape) (z : Shape) (fits : Fits w a g o node xs z) (fit : is_unfit w a g o xs node ≡ false) (some : some_nothing xs ≡ false) where
  all_pieces : Under w.tables.classes a.same (pieces_for w a g o xs (Nothing ∷ parts w a o xs)) z
  all_pieces = subst (λ (b : Bool). Under w.tables.classes a.same (if b then misfit ∷ [] else pieces_for w a g o xs (Nothing ∷ parts w a o xs)) z) fit fits.above

  pub row_fits : Under w.tables.classes a.same (fitting w.tables o xs Nothing) z
  row_fits = pieces_fit w.tables.classes a.same w.tables o xs Nothing z some fits.free (under_both w.tables.classes a.same (pieces w.tables o xs Nothing) (pieces_for w a g o xs (parts w a o xs)) z all_pieces).0

  pub part_fits : (q : Shape) (qs : List Shape) → parts w a o xs ≡ q ∷ qs → Under w.tables.classes a.same (fitting w.tables o xs q) z
  part_fits q qs is =
      let others = (under_both w.tables.classes a.same (pieces w.tables o xs Nothing) (pieces_for w a g o xs (parts w a o xs)) z all_pieces).1 in
      pieces_fit w.tables.classes a.same w.tables o xs q z some fits.free
      (under_both w.tables.classes a.same (pieces w.tables o xs q) (pieces_for w a g o xs qs) z (subst (λ ps. Under w.tables.classes a.same (pieces_for w a g o xs ps) z) is others)).0

  -- a row that takes so many operands has as many
  pub counted : (k : ℕ) → ((length xs ≡ k → ⊥) → fitting w.tables o xs Nothing ≡ misfit ∷ []) → (length xs ≡ k → ⊥) → ⊥
  counted k takes other = no_misfit w.tables.classes a.same z (subst (λ ys. Under w.tables.classes a.same ys z) (takes other) row_fits).0 fits.free
