-- Parts that were put one after another.
use Rattle.std.proofs.Common.{◌≡◌, ℕ, zero, suc, ◌+◌, ◌<◌, Bool, false, List, [], ◌∷◌, ◌++◌, length, map, ◌⊎◌, inl, inr, Some, refl, sym, ap, ◌∙◌, subst, arith, append_assoc, append-nil, length-append, add-zero, add-one}
use Rattle.std.specs.Prelude.{slice_get, slice_set, IfOk, OnOk}
use Rattle.std.proofs.Common.{Result, Ok, Err}
use Rattle.rpy_base.specs.declared.fault.NoMem.{NoMem}
use Rattle.std.proofs.Math.Seq.{set-append_seam}
use Rattle.std.proofs.lemmas.Option.{slice_get_within}
use Rattle.rpy_resolved.specs.declared.tree.Resolved.{Resolved}
use Rattle.flow_graph.specs.declared.graph.Block.{Block}
use Rattle.flow_graph.specs.declared.graph.Graphs.{Graphs}
use Rattle.flow_graph.specs.declared.graph.Link.{Link}
use Rattle.flow_graph.specs.declared.graph.Op.{Op}
use Rattle.rpy_meaning.specs.declared.row.RowOp.{RowOp}
use Rattle.flow_trees.specs.Ops.{Property, OfOps, OfBlocks, IsOp, InShape, Helps}
use Rattle.flow_stands.specs.Places.{Shape, Go, Fork, Does, Plain, GiveBack, GiveUp, range, numbered, link, links, hand_jumps, stored_if_any, first}
use Rattle.flow_space.specs.declared.code.Hand.{Hand}
use Rattle.flow_space.specs.Placed.{At, Part, Headed, ShapeAt, MarkedAt, aim_of, hands_of}

get_left : (a more : List Block) (p : ℕ) → p < length a → slice_get (a ++ more) p ≡ slice_get a p
get_left [] more p lt = absurd (omega arith)
get_left (x ∷ a) more zero lt = refl
get_left (x ∷ a) more (suc p) lt = get_left a more p (omega arith)

get_seam : (old : List Block) (b : Block) (more : List Block) → slice_get (old ++ b ∷ more) (length old) ≡ Some b
get_seam [] b more = refl
get_seam (x ∷ old) b more = get_seam old b more

get_other : (old : List Block) (b x : Block) (more : List Block) (p : ℕ) → length old < p → slice_get (old ++ b ∷ more) p ≡ slice_get (old ++ x ∷ more) p
get_other [] b x more zero lt = absurd (omega arith)
get_other [] b x more (suc p) lt = refl
get_other (y ∷ old) b x more zero lt = absurd (omega arith)
get_other (y ∷ old) b x more (suc p) lt = get_other old b x more p (omega arith)

-- ---- operations of blocks

pub either : {A B C : Type 0} → (A → C) → (B → C) → A ⊎ B → C
either g h (inl a) = g a
either g h (inr b) = h b

pub helps : {x node : ℕ} {g : Bool} {w op : RowOp} → IsOp x g w node false op → Helps x g w node
helps h = (h.0, h.1)

ops_map : {P Q : Property} → ((x : ℕ) (g : Bool) (w : RowOp) → P x g w → Q x g w) → (ops : List Op) → OfOps P ops → OfOps Q ops
ops_map h [] all = tt
ops_map h (op ∷ ops) all = (h op.node op.value op.op all.0, ops_map h ops all.1)

pub blocks_map : {P Q : Property} → ((x : ℕ) (g : Bool) (w : RowOp) → P x g w → Q x g w) → (blocks : List Block) → OfBlocks P blocks → OfBlocks Q blocks
blocks_map h [] all = tt
blocks_map h (block ∷ blocks) all = (ops_map h block.ops all.0, blocks_map h blocks all.1)

blocks_append : (P : Property) (xs ys : List Block) → OfBlocks P xs → OfBlocks P ys → OfBlocks P (xs ++ ys)
blocks_append P [] ys all more = more
blocks_append P (x ∷ xs) ys all more = (all.0, blocks_append P xs ys all.1 more)

shape_ops : (base m node : ℕ) (value : Bool) (shape : Shape) → OfOps (λ x g w. InShape x g w node value shape) (numbered base m node value shape).ops
shape_ops base m node value (Go jump) = tt
shape_ops base m node value (Fork test so other) = tt
shape_ops base m node value (Does op args covers hands default norm) = ((refl, refl, refl), tt)
shape_ops base m node value (Plain op jump) = ((refl, refl, refl), tt)
shape_ops base m node value GiveBack = tt
shape_ops base m node value GiveUp = tt

-- ---- parts

pub part_map : {old new : List Block} {P Q : At} → ((r : Resolved) (gs : Graphs) (f lo hi : ℕ) → P.stands r gs f lo hi → Q.stands r gs f lo hi) → ((r : Resolved) (x : ℕ) (g : Bool) (w : RowOp) → P.ops r x g w → Q.ops r x g w) → Part old new P → Part old new Q
part_map {old} {new} g ops x = record { grows = x.grows; stands = λ r gs f h. g r gs f (length old) (length new) (x.stands r gs f h); only = λ r. blocks_map (ops r) x.grows.0 (x.only r) }

-- one block more
pub part_marked : (old new : List Block) (base node : ℕ) (value : Bool) (b m : ℕ) (shape : Shape) → b ≡ length old → new ≡ old ++ numbered base m node value shape ∷ [] → Part old new (MarkedAt b m node value shape)
part_marked old new base node value b m shape at e =
    let block = numbered base m node value shape in
    let longer = length-append old (block ∷ []) in
    let len = ap length e in
    record {
      grows = (block ∷ [], e);
      stands = λ r gs f h.
          let lt : b < length new = omega (arith, len, longer, at) in
          ((base, h b (omega (arith, at)) lt ∙ ap (λ l. slice_get l b) e ∙ ap (slice_get (old ++ block ∷ [])) at ∙ get_seam old block []), (sym at, omega (arith, len, longer, at)));
      only = λ r. (shape_ops base m node value shape, tt);
    }

-- one without an operation
pub part_push : (old new : List Block) (base node : ℕ) (value : Bool) (b m : ℕ) (shape : Shape) → ((x : ℕ) (g : Bool) (w : RowOp) → InShape x g w node value shape → ⊥) → b ≡ length old → new ≡ old ++ numbered base m node value shape ∷ []
    → Part old new (ShapeAt b m shape)
part_push old new base node value b m shape none at e = part_map (λ r gs f lo hi h. ((h.0.0, node, value, h.0.1), h.1)) (λ r x g w h. none x g w h) (part_marked old new base node value b m shape at e)

-- one part after another, which share out the blocks
abbrev pub Both : At → At → At
Both P Q = record { stands = λ r gs f lo hi. (mid : ℕ) × P.stands r gs f lo mid × Q.stands r gs f mid hi; ops = λ r x g w. P.ops r x g w ⊎ Q.ops r x g w }

pub part_then : {old mid new : List Block} {P Q : At} → Part old mid P → Part mid new Q → Part old new (Both P Q)
part_then {old} {mid} {new} {P} {Q} x y =
    let l1 = ap length x.grows.1 ∙ length-append old x.grows.0 in
    let l2 = ap length y.grows.1 ∙ length-append mid y.grows.0 in
    record {
      grows = (x.grows.0 ++ y.grows.0, y.grows.1 ∙ ap (λ l. l ++ y.grows.0) x.grows.1 ∙ append_assoc old x.grows.0 y.grows.0);
      stands = λ r gs f h. (
        length mid,
        x.stands r gs f (λ p le lt. h p le (omega (arith, l2, lt)) ∙ ap (λ l. slice_get l p) y.grows.1 ∙ get_left mid y.grows.0 p lt),
        y.stands r gs f (λ p le lt. h p (omega (arith, l1, le)) lt),
      );
      only = λ r. blocks_append (λ n g w. P.ops r n g w ⊎ Q.ops r n g w) x.grows.0 y.grows.0 (blocks_map (λ x g w h. inl h) x.grows.0 (x.only r)) (blocks_map (λ x g w h. inr h) y.grows.0 (y.only r));
    }

pub part_none : {P : At} (old : List Block) → ((r : Resolved) (gs : Graphs) (f lo : ℕ) → P.stands r gs f lo lo) → Part old old P
part_none old x = record { grows = ([], sym (append-nil old)); stands = λ r gs f h. x r gs f (length old); only = λ r. tt }

-- a block that was put first and written last
abbrev pub Patched : ℕ → ℕ → ℕ → At → At
Patched k m to P = record { stands = λ r gs f lo hi. (mid : ℕ) × (ShapeAt k m (Go (first to m))).stands r gs f lo mid × P.stands r gs f mid hi; ops = P.ops }

pub part_patch : {old c1 c2 : List Block} {P : At} (new : List Block) (base m k count to : ℕ) → Headed old c1 m k count → Part c1 c2 P → new ≡ slice_set c2 k (numbered base count 0 false (Go (first to count))) → Part old new (Patched k m to P)
part_patch {old} {c1} {c2} {P} new base m k count to head y e2 =
    let b = numbered base count 0 false (Go (first to count)) in
    let x = head.grows.0 in
    let e = head.grows.1 in
    let at = head.at in
    let more = y.grows.0 in
    let c2_is : c2 ≡ old ++ x ∷ more = y.grows.1 ∙ ap (λ l. l ++ more) e ∙ append_assoc old (x ∷ []) more in
    let new_is : new ≡ old ++ b ∷ more = e2 ∙ ap (λ l. slice_set l k b) c2_is ∙ ap (λ i. slice_set (old ++ x ∷ more) i b) at ∙ set-append_seam old x more b in
    let l1 = ap length new_is ∙ length-append old (b ∷ more) in
    let l2 = ap length c2_is ∙ length-append old (x ∷ more) in
    let l3 = ap length e ∙ length-append old (x ∷ []) in
    let same : length c2 ≡ length new = omega (arith, l1, l2) in
    record {
      grows = (b ∷ more, new_is);
      stands = λ r gs f h. (
        length c1,
        (
            subst (λ n. (ShapeAt k n (Go (first to n))).stands r gs f (length old) (length c1)) head.count_is
            ((base, 0, false, h k (omega (arith, at)) (omega (arith, l1, at)) ∙ ap (λ l. slice_get l k) new_is ∙ ap (slice_get (old ++ b ∷ more)) at ∙ get_seam old b more), (sym at, omega (arith, l3, at)))
            ),
        subst (λ n. P.stands r gs f (length c1) n) same
            (y.stands r gs f (λ p le lt.
            let past : length old < p = omega (arith, l3, le) in
            h p (omega (arith, past)) (omega (arith, l1, l2, lt)) ∙ ap (λ l. slice_get l p) new_is ∙ get_other old b x more p past ∙ ap (λ l. slice_get l p) (sym c2_is))),
      );
      only = λ r. (tt, y.only r);
    }

-- a block keeps its place when others are put
pub kept : {old new : List Block} {P : At} (k : ℕ) (b : Block) → Part old new P → slice_get old k ≡ Some b → slice_get new k ≡ Some b
kept {old} k b x e = ap (λ l. slice_get l k) x.grows.1 ∙ get_left old x.grows.0 k (slice_get_within old k b e) ∙ e

-- ---- results

pub ok_map : {A : Type 0} {P Q : A → Type 0} (result : Result A NoMem) → ((x : A) → P x → Q x) → IfOk result P → IfOk result Q
ok_map (Ok b) g h = g b h
ok_map (Err e) g h = h

pub ok_both : {A : Type 0} (P Q : A → Type 0) (result : Result A NoMem) → IfOk result P → IfOk result Q → IfOk result (λ x. P x × Q x)
ok_both P Q (Ok x) g h = (g, h)
ok_both P Q (Err e) g h = g

pub ok_put : {Q : ℕ → Type 0} (result : Result ℕ NoMem) (new old : List Block) (block : Block) → IfOk result (λ b. b ≡ length old) → OnOk result (new ≡ old ++ block ∷ []) → ((b : ℕ) → b ≡ length old → new ≡ old ++ block ∷ [] → Q b) → IfOk result Q
ok_put (Ok b) new old block at put g = g b at put
ok_put (Err e) new old block at put g = at

-- ---- places

range_suc : (a k : ℕ) → range a (suc k) ≡ range a k ++ (a + k) ∷ []
range_suc a zero = ap (λ (x : ℕ). x ∷ []) (sym (add-zero a))
range_suc a (suc k) =
    let e : a + 1 + k ≡ a + suc k = omega arith in
    ap (λ (l : List ℕ). a ∷ l) (range_suc (a + 1) k ∙ ap (λ (x : ℕ). range (a + 1) k ++ x ∷ []) e)

pub range_push : (a k : ℕ) → range a (k + 1) ≡ range a k ++ (a + k) ∷ []
range_push a k = rw add-one (range_suc a k)

pub range_length : (a k : ℕ) → length (range a k) ≡ k
range_length a zero = refl
range_length a (suc k) = omega (arith, range_length (a + 1) k)

-- ---- hands

abbrev pub hand_pair : ℕ → ℕ → Hand → ℕ × Link
hand_pair base place h = (h.class, link base (stored_if_any (aim_of h.aim) h.local place))

pub links_map : (base place : ℕ) (hands : List Hand) → links base (hand_jumps place (hands_of hands)) ≡ map (hand_pair base place) hands
links_map base place [] = refl
links_map base place (h ∷ hands) = ap (λ (l : List (ℕ × Link)). hand_pair base place h ∷ l) (links_map base place hands)
