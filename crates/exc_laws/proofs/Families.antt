-- The exceptions of a program that is well typed.
use Rattle.std.proofs.Common.{◌≡◌, ◌<◌, ◌≤◌, ℕ, zero, suc, ◌+◌, true, List, [], ◌∷◌, length, Option, Some, None, refl, sym, ap, ◌∙◌, subst, arith}
use Rattle.std.specs.Prelude.{slice_get}
use Rattle.ll_code.specs.Typed.{is_type, are_types, is_kind, are_kinds, points, base_of, is_base, struct_ok, structs_ok, field_of, own_field, operation_ok, operations_ok, exit_ok, block_ok, blocks_ok, graph_ok, graphs_ok}
use Rattle.ll_code.specs.declared.program.LlType.{LlType}
use Rattle.ll_code.specs.declared.program.LlType.TheVariants as type
use Rattle.ll_code.specs.declared.program.LlStruct.{LlStruct}
use Rattle.ll_code.specs.declared.program.LlOp.{LlOp}
use Rattle.ll_code.specs.declared.program.LlOp.TheVariants as op
use Rattle.ll_code.specs.declared.program.LlExit.{LlExit}
use Rattle.ll_code.specs.declared.program.LlExit.TheVariants as exit
use Rattle.ll_code.specs.declared.program.LlBlock.{LlBlock}
use Rattle.ll_code.specs.declared.program.LlGraph.{LlGraph}
use Rattle.ll_code.specs.declared.program.LlProgram.{LlProgram}
use Rattle.ll_laws.proofs.Values.{and_left, and_right, is_less}
use Rattle.exc_laws.proofs.Tests.{and_both}
use Rattle.exc_transform.specs.declared.family.Family.{Family}
use Rattle.exc_transform.specs.Explicit.{led_to, pointed, kind_of, are_calm, block_calm, blocks_calm, graphs_calm, leaves_calmly}
use Rattle.exc_transform.specs.Explicit as spec
use Rattle.exc_transform.specs.Families.{in_ops, in_exit, or_found, in_blocks, in_graphs, above, root_within, first_field, first_of, family_at, family_of, root_from}

-- ---- what a family has to keep: its structs are there, and the first field of the root leads to its kind

pub record FamilyFits (structs : List LlStruct) (family : Family) : Type 0 where
  pub kind : kind_of family < length structs
  pub field : (n : ℕ) → family.kind ≡ Some n → field_of (slice_get structs family.root) 0 ≡ Some (type.Ptr n)

-- ---- the struct of an exception

module _ (structs : List LlStruct) where
  pub kind_at : (types : List LlType) (v : ℕ) (t : LlType) → are_kinds structs types ≡ true → slice_get types v ≡ Some t → is_kind structs t ≡ true
  kind_at [] v t h e = absurd (cc)
  kind_at (u ∷ types) zero t h e = let f : u ≡ t = cc in subst (λ t. is_kind structs t ≡ true) f (and_left _ _ h)
  kind_at (u ∷ types) (suc v) t h e = kind_at types v t (and_right (is_kind structs u) _ h) e

  -- a variable that is a pointer leads to a struct that is there
  pub leads : (types : List LlType) (v : ℕ) → are_kinds structs types ≡ true → points (slice_get types v) ≡ true → (n : ℕ) × (slice_get types v ≡ Some (type.Ptr n)) × (n < length structs)
  leads types v kinds h = one (slice_get types v) refl h
    where
      one : (o : Option LlType) → slice_get types v ≡ o → points o ≡ true → (n : ℕ) × (slice_get types v ≡ Some (type.Ptr n)) × (n < length structs)
      one (Some (type.Ptr n)) e h = (n, e, is_less n (length structs) (kind_at types v (type.Ptr n) kinds e))
      one other e h = absurd (cc)

  abbrev Found : Option ℕ → Type 0
  Found o = (n : ℕ) × (o ≡ Some n) × (n < length structs)

  led_found : (types : List LlType) (v : ℕ) → are_kinds structs types ≡ true → points (slice_get types v) ≡ true → Found (led_to types v)
  led_found types v kinds h = let l = leads types v kinds h in (l.0, ap pointed l.1, l.2)

  -- where the first is found only with a struct that is there, and one of the two is
  either : (a b : Option ℕ) → (a ≡ None → Found b) → ((n : ℕ) → a ≡ Some n → n < length structs) → Found (or_found a b)
  either None b go h = go refl
  either (Some n) b go h = (n, refl, h n refl)

  within_found : (o : Option ℕ) (n : ℕ) → Found o → o ≡ Some n → n < length structs
  within_found o n (m, e, lt) f = let g : m ≡ n = let h : Some m ≡ Some n = sym e ∙ f in cc in subst (λ k. k < length structs) g lt

  no_found : (o : Option ℕ) → Found o → o ≡ None → ⊥
  no_found o (m, e, lt) f = absurd (let h : Some m ≡ None = sym e ∙ f in cc)

module _ (p : LlProgram) where
  module _ (types : List LlType) (kinds : are_kinds p.structs types ≡ true) where
    ops_within : (ops : List LlOp) → operations_ok p types ops ≡ true → (n : ℕ) → in_ops types ops ≡ Some n → n < length p.structs
    ops_within [] h n e = absurd (cc)
    ops_within (op.Raise a ∷ ops) h n e = within_found p.structs (led_to types a) n (led_found p.structs types a kinds (and_right _ _ (and_left _ _ h))) e
    ops_within (o ∷ ops) h n e = ops_within ops (and_right (operation_ok p types o) _ h) n e

    ops_none : (ops : List LlOp) → operations_ok p types ops ≡ true → in_ops types ops ≡ None → are_calm ops ≡ true
    ops_none [] h e = refl
    ops_none (op.Raise a ∷ ops) h e = absurd (no_found p.structs (led_to types a) (led_found p.structs types a kinds (and_right _ _ (and_left _ _ h))) e)
    ops_none (o ∷ ops) h e = ops_none ops (and_right (operation_ok p types o) _ h) e

  module _ (g : LlGraph) (kinds : are_kinds p.structs g.types ≡ true) where
    exit_within : (e : LlExit) → exit_ok p g e ≡ true → (n : ℕ) → in_exit g.types e ≡ Some n → n < length p.structs
    exit_within (exit.OnRaise a by without) h n f =
        within_found p.structs (led_to g.types a) n (led_found p.structs g.types a kinds (and_right _ _ (and_left _ _ (and_left _ _ h)))) f
    exit_within (exit.Raise a) h n f = within_found p.structs (led_to g.types a) n (led_found p.structs g.types a kinds (and_right _ _ h)) f
    exit_within other h n f = absurd (cc)

    exit_none : (e : LlExit) → exit_ok p g e ≡ true → in_exit g.types e ≡ None → leaves_calmly e ≡ true
    exit_none (exit.OnRaise a by without) h f = absurd (no_found p.structs (led_to g.types a) (led_found p.structs g.types a kinds (and_right _ _ (and_left _ _ (and_left _ _ h)))) f)
    exit_none (exit.Raise a) h f = absurd (no_found p.structs (led_to g.types a) (led_found p.structs g.types a kinds (and_right _ _ h)) f)
    exit_none other h f = refl

    -- an exception is found with a struct that is there, or there is none
    blocks_within : (blocks : List LlBlock) → blocks_ok p g blocks ≡ true → (n : ℕ) → in_blocks g.types blocks ≡ Some n → n < length p.structs
    blocks_within [] h n e = absurd (cc)
    blocks_within (b ∷ blocks) h n e = first (blocks_within blocks (and_right (block_ok p g b) _ h) n) (in_ops g.types b.ops) (in_exit g.types b.exit) refl refl e
      where
        first : (in_blocks g.types blocks ≡ Some n → n < length p.structs) → (x y : Option ℕ) → in_ops g.types b.ops ≡ x → in_exit g.types b.exit ≡ y → or_found x (or_found y (in_blocks g.types blocks)) ≡ Some n → n < length p.structs
        first go (Some m) y f k i = ops_within g.types kinds b.ops (and_left _ _ (and_left _ _ h)) n (f ∙ i)
        first go None (Some m) f k i = exit_within b.exit (and_right _ _ (and_left _ _ h)) n (k ∙ i)
        first go None None f k i = go i

    blocks_none : (blocks : List LlBlock) → blocks_ok p g blocks ≡ true → in_blocks g.types blocks ≡ None → blocks_calm blocks ≡ true
    blocks_none [] h e = refl
    blocks_none (b ∷ blocks) h e = first (blocks_none blocks (and_right (block_ok p g b) _ h)) (in_ops g.types b.ops) (in_exit g.types b.exit) refl refl e
      where
        first : (in_blocks g.types blocks ≡ None → blocks_calm blocks ≡ true) → (x y : Option ℕ) → in_ops g.types b.ops ≡ x → in_exit g.types b.exit ≡ y → or_found x (or_found y (in_blocks g.types blocks)) ≡ None → blocks_calm (b ∷ blocks) ≡ true
        first go (Some m) y f k i = absurd (cc)
        first go None (Some m) f k i = absurd (cc)
        first go None None f k i =
            and_both (block_calm b) (blocks_calm blocks)
            (and_both (are_calm b.ops) (leaves_calmly b.exit) (ops_none g.types kinds b.ops (and_left _ _ (and_left _ _ h)) f) (exit_none b.exit (and_right (operations_ok p g.types b.ops) _ (and_left _ _ h)) k)) (go i)

  kinds_of : (g : LlGraph) → graph_ok p g ≡ true → are_kinds p.structs g.types ≡ true
  kinds_of g h = and_right _ _ (and_left _ _ (and_left _ _ (and_left _ _ (and_left _ _ h))))

  pub graphs_within : (graphs : List LlGraph) → graphs_ok p graphs ≡ true → (n : ℕ) → in_graphs graphs ≡ Some n → n < length p.structs
  graphs_within [] h n e = absurd (cc)
  graphs_within (g ∷ graphs) h n e = first (graphs_within graphs (and_right (graph_ok p g) _ h) n) (in_blocks g.types g.blocks) refl e
    where
      first : (in_graphs graphs ≡ Some n → n < length p.structs) → (x : Option ℕ) → in_blocks g.types g.blocks ≡ x → or_found x (in_graphs graphs) ≡ Some n → n < length p.structs
      first go (Some m) f i = blocks_within g (kinds_of g (and_left _ _ h)) g.blocks (and_right _ _ (and_left _ _ h)) n (f ∙ i)
      first go None f i = go i

  pub graphs_none : (graphs : List LlGraph) → graphs_ok p graphs ≡ true → in_graphs graphs ≡ None → graphs_calm graphs ≡ true
  graphs_none [] h e = refl
  graphs_none (g ∷ graphs) h e = first (graphs_none graphs (and_right (graph_ok p g) _ h)) (in_blocks g.types g.blocks) refl e
    where
      first : (in_graphs graphs ≡ None → graphs_calm graphs ≡ true) → (x : Option ℕ) → in_blocks g.types g.blocks ≡ x → or_found x (in_graphs graphs) ≡ None → graphs_calm (g ∷ graphs) ≡ true
      first go (Some m) f i = absurd (cc)
      first go None f i = and_both (blocks_calm g.blocks) (graphs_calm graphs) (blocks_none g (kinds_of g (and_left _ _ h)) g.blocks (and_right _ _ (and_left _ _ h)) f) (go i)

-- ---- the root

module _ (structs : List LlStruct) where
  struct_at : (below : ℕ) (ss : List LlStruct) (k : ℕ) (s : LlStruct) → structs_ok structs below ss ≡ true → slice_get ss k ≡ Some s → struct_ok structs (below + k) s ≡ true
  struct_at below [] k s h e = absurd (cc)
  struct_at below (x ∷ ss) zero s h e =
      let f : x ≡ s = cc in let g : below ≡ below + 0 = omega arith in subst (λ s. struct_ok structs (below + 0) s ≡ true) f (subst (λ n. struct_ok structs n x ≡ true) g (and_left _ _ h))
  struct_at below (x ∷ ss) (suc k) s h e =
      let g : below + 1 + k ≡ below + suc k = omega arith in subst (λ n. struct_ok structs n s ≡ true) g (struct_at (below + 1) ss k s (and_right (struct_ok structs below x) _ h) e)

  module _ (ok : structs_ok structs 0 structs ≡ true) where
    ok_at : (n : ℕ) (s : LlStruct) → slice_get structs n ≡ Some s → struct_ok structs n s ≡ true
    ok_at n s e = let f : 0 + n ≡ n = omega arith in subst (λ k. struct_ok structs k s ≡ true) f (struct_at 0 structs n s ok e)

    base_below : (n : ℕ) (m : ℕ) → base_of (slice_get structs n) ≡ Some m → m < n
    base_below n m e = one (slice_get structs n) refl e
      where
        one : (o : Option LlStruct) → slice_get structs n ≡ o → base_of o ≡ Some m → m < n
        one None f h = absurd (cc)
        one (Some s) f h = is_less m n (and_left _ _ (subst (λ b. is_base structs n b ≡ true) h (and_left _ _ (and_left _ _ (ok_at n s f)))))

    -- as many looks as the number of the struct suffice
    pub root_is : (times : List LlStruct) (n : ℕ) → n ≤ length times → n < length structs → (base_of (slice_get structs (root_within structs times n)) ≡ None) × (root_within structs times n < length structs)
    root_is [] n le lt = (none (base_of (slice_get structs n)) refl, lt)
      where
        none : (o : Option ℕ) → base_of (slice_get structs n) ≡ o → base_of (slice_get structs n) ≡ None
        none None e = e
        none (Some m) e = let b : m < n = base_below n m e in absurd (omega (arith, le, b))
    root_is (t ∷ times) n le lt = on (λ m. root_is times m) (base_of (slice_get structs n)) refl
      where
        on : ((m : ℕ) → m ≤ length times → m < length structs → (base_of (slice_get structs (root_within structs times m)) ≡ None) × (root_within structs times m < length structs)) → (o : Option ℕ) → base_of (slice_get structs n) ≡ o → (base_of (slice_get structs (above (root_within structs times) n o)) ≡ None) × (above (root_within structs times) n o < length structs)
        on go None e = (e, lt)
        on go (Some m) e = let b : m < n = base_below n m e in go m (omega (arith, le, b)) (omega (arith, b, lt))

    -- the first field of a struct without a base
    first_is : (root n : ℕ) → base_of (slice_get structs root) ≡ None → first_field structs root ≡ Some n → (field_of (slice_get structs root) 0 ≡ Some (type.Ptr n)) × (n < length structs)
    first_is root n none e = one (slice_get structs root) refl none e
      where
        first : (s : LlStruct) (o : Option LlType) → slice_get s.fields 0 ≡ o → are_types structs s.fields ≡ true → pointed o ≡ Some n → (slice_get s.fields 0 ≡ Some (type.Ptr n)) × (n < length structs)
        first s (Some (type.Ptr m)) f h i = let j : m ≡ n = cc in (f ∙ ap (λ n. Some (type.Ptr n)) j, subst (λ n. n < length structs) j (is_less m (length structs) (type_at s.fields f h)))
          where
            type_at : (fields : List LlType) → slice_get fields 0 ≡ Some (type.Ptr m) → are_types structs fields ≡ true → is_type structs (type.Ptr m) ≡ true
            type_at [] f h = absurd (cc)
            type_at (t ∷ fields) f h = let g : t ≡ type.Ptr m = cc in subst (λ t. is_type structs t ≡ true) g (and_left _ _ h)
        first s other f h i = absurd (cc)

        own : (s : LlStruct) (base : Option ℕ) → base ≡ None → own_field s base 0 ≡ slice_get s.fields 0
        own s None e = refl
        own s (Some m) e = absurd (cc)

        one : (o : Option LlStruct) → slice_get structs root ≡ o → base_of o ≡ None → first_of o ≡ Some n → (field_of (slice_get structs root) 0 ≡ Some (type.Ptr n)) × (n < length structs)
        one None f none e = absurd (cc)
        one (Some s) f none e =
            let h = first s (slice_get s.fields 0) refl (and_right _ _ (and_left _ _ (ok_at root s f))) e in (ap (λ o. field_of o 0) f ∙ own s s.base none ∙ h.0, h.1)

    fits_at : (n : ℕ) → n < length structs → FamilyFits structs (family_at structs (root_within structs structs n))
    fits_at n lt = record { kind = kind (first_field structs (root_within structs structs n)) refl; field = λ m e. (first_is (root_within structs structs n) m root.0 e).0 }
      where
        root : (base_of (slice_get structs (root_within structs structs n)) ≡ None) × (root_within structs structs n < length structs)
        root = root_is structs n (omega (arith, lt)) lt

        kind : (o : Option ℕ) → first_field structs (root_within structs structs n) ≡ o → spec.or_else (root_within structs structs n) o < length structs
        kind None e = root.1
        kind (Some m) e = (first_is (root_within structs structs n) m root.0 e).1

  pub family_fits : (ok : structs_ok structs 0 structs ≡ true) (graphs : List LlGraph) (n : ℕ) → in_graphs graphs ≡ Some n → n < length structs → FamilyFits structs (family_of structs graphs)
  family_fits ok graphs n e lt = subst (λ o. FamilyFits structs (family_at structs (root_from structs o))) (sym e) (fits_at ok n lt)
