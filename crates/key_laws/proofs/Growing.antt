-- Each step keeps elements of keys in the cells of keys, or makes a conflict there.
use Rattle.std.proofs.Common.{◌≡◌, ◌≢◌, ◌<◌, ◌≤◌, ℕ, zero, suc, ◌⊎◌, inl, inr, Bool, true, false, List, [], ◌∷◌, length, map, get_or, replicate, set, refl, sym, ap, ◌∙◌, subst, arith}
use Rattle.std.specs.Prelude.{nat_lt, if◌then◌else◌}
use Rattle.std.proofs.lemmas.List.{length-set, length-replicate, get_or_past, get_or-set_same, get_or-set_other}
use Rattle.rpy_tree.specs.declared.program.ClassInfo.{ClassInfo}
use Rattle.rpy_tree.specs.declared.program.Program.{Program}
use Rattle.flow_graph.specs.declared.graph.Graphs.{Graphs}
use Rattle.class_desc.specs.Tables.{tables}
use Rattle.ann_element.specs.Sites.{leader}
use Rattle.ann_lattice.specs.Assign.{Assignment, at, Need, Up, Set, raised, raise, meet, Grown, begin, step}
use Rattle.ann_lattice.specs.Join.{is_clash, join}
use Rattle.ann_lattice.specs.Laws.{named}
use Rattle.ann_lattice.specs.Order.{is_key}
use Rattle.ann_lattice.specs.Shape.{Shape, Nothing}
use Rattle.ann_rules.specs.Program.{Whole}
use Rattle.ann_rules.specs.Rules.{needs, rules, no_need}
use Rattle.ann_needs.specs.View.{nowhere, assignment, whole}
use Rattle.ann_layout.specs.Layout.{plan, planned}
use Rattle.ann_places.specs.Spots.{start}
use Rattle.ann_places.proofs.Spotting.{is_placed}
use Rattle.key_laws.specs.Keys.{ProgramsHaveKeys}
use Rattle.key_laws.proofs.Joining.{is_keyish, key_of, join_keyish, named_key}
use Rattle.key_laws.proofs.Apart.{IsKeyCell, are_apart, key_place}
use Rattle.key_laws.proofs.Asking.{AllKeyish, IsFine, AreFine}
use Rattle.key_laws.proofs.Needing.{needs_fine}

same_number : (c d : ℕ) → (c ≡ d) ⊎ (c ≢ d)
same_number c d = grind arith

within_or : (c n : ℕ) → (c < n) ⊎ (n ≤ c)
within_or c n = grind arith

-- what is put into a cell stands there, or nothing does
put_keyish : (xs : List Shape) (c : ℕ) (x : Shape) → is_keyish x ≡ true → is_keyish (get_or (set xs c x) c Nothing) ≡ true
put_keyish xs c x h = by (within_or c (length xs))
  where
    by : (c < length xs) ⊎ (length xs ≤ c) → is_keyish (get_or (set xs c x) c Nothing) ≡ true
    by (inl lt) = ap is_keyish (get_or-set_same xs c x Nothing lt) ∙ h
    by (inr le) = ap is_keyish (get_or_past (set xs c x) c Nothing (let e = length-set xs c x in omega (arith, le, e)))

module _ (Key : ℕ → Type 0) (k : List ClassInfo) where
  abbrev HasKeys : Assignment → Type 0
  HasKeys a = (c : ℕ) → Key c → is_keyish (at a c) ≡ true

  raised_keys : (a : Assignment) (c : ℕ) (e : Shape) → (Key c → is_keyish e ≡ true) → HasKeys a → HasKeys (raised k c e a)
  raised_keys a c e h keys d key = by (same_number d c)
    where
      by : (d ≡ c) ⊎ (d ≢ c) → is_keyish (get_or (set a.cells c (join k (at a c) e)) d Nothing) ≡ true
      by (inl same) =
          let here : Key c = subst Key same key in
          subst (λ x. is_keyish (get_or (set a.cells c (join k (at a c) e)) x Nothing) ≡ true) (sym same) (put_keyish a.cells c (join k (at a c) e) (join_keyish k (at a c) e (keys c here) (h here)))
      by (inr other) = ap is_keyish (get_or-set_other a.cells c d (join k (at a c) e) Nothing other) ∙ keys d key

  raise_keys : (c : ℕ) (es : List Shape) (a : Assignment) → (Key c → AllKeyish es) → HasKeys a → HasKeys (raise k c es a)
  raise_keys c [] a h keys = keys
  raise_keys c (e ∷ es) a h keys = raise_keys c es (raised k c e a) (λ i. (h i).1) (raised_keys a c e (λ i. (h i).0) keys)

  up_keys : (b : Bool) (c : ℕ) (es : List Shape) (a : Assignment) → (Key c → AllKeyish es) → HasKeys a → HasKeys (if b then raise k c es a else a)
  up_keys true c es a h keys = raise_keys c es a h keys
  up_keys false c es a h keys = keys

  set_keys : (b : Bool) (m : ℕ) (a : Assignment) → HasKeys a → HasKeys (if b then record { cells = a.cells; marks = set a.marks m true; same = a.same } else a)
  set_keys true m a keys = keys
  set_keys false m a keys = keys

  meet_keys : (n : Need) (a : Assignment) → IsFine Key n → HasKeys a → HasKeys (meet k n a)
  meet_keys (Up c es) a h keys = up_keys (nat_lt c (length a.cells)) c es a h keys
  meet_keys (Set m) a h keys = set_keys (nat_lt m (length a.marks)) m a keys

  -- ---- as many cells

  raise_cells : (c : ℕ) (es : List Shape) (a : Assignment) → length (raise k c es a).cells ≡ length a.cells
  raise_cells c [] a = refl
  raise_cells c (e ∷ es) a = raise_cells c es (raised k c e a) ∙ length-set a.cells c (join k (at a c) e)

  up_cells : (b : Bool) (c : ℕ) (es : List Shape) (a : Assignment) → length (if b then raise k c es a else a).cells ≡ length a.cells
  up_cells true c es a = raise_cells c es a
  up_cells false c es a = refl

  set_cells : (b : Bool) (m : ℕ) (a : Assignment) → length (if b then record { cells = a.cells; marks = set a.marks m true; same = a.same } else a).cells ≡ length a.cells
  set_cells true m a = refl
  set_cells false m a = refl

  meet_cells : (n : Need) (a : Assignment) → length (meet k n a).cells ≡ length a.cells
  meet_cells (Up c es) a = up_cells (nat_lt c (length a.cells)) c es a
  meet_cells (Set m) a = set_cells (nat_lt m (length a.marks)) m a

one_fine : (Key : ℕ → Type 0) (ns : List Need) (r : ℕ) → AreFine Key ns → IsFine Key (get_or ns r no_need)
one_fine Key [] r h = λ i. tt
one_fine Key (n ∷ ns) zero h = h.0
one_fine Key (n ∷ ns) (suc r) h = one_fine Key ns r h.1

nothing_at : (n c : ℕ) → get_or (replicate n Nothing) c Nothing ≡ Nothing
nothing_at zero c = refl
nothing_at (suc n) zero = refl
nothing_at (suc n) (suc c) = nothing_at n c

mapped_at : (f : Shape → Shape) → f Nothing ≡ Nothing → (xs : List Shape) (c : ℕ) → get_or (map f xs) c Nothing ≡ f (get_or xs c Nothing)
mapped_at f h [] c = sym h
mapped_at f h (x ∷ xs) zero = refl
mapped_at f h (x ∷ xs) (suc c) = mapped_at f h xs c

-- ---- of a program

module _ (p : Program) (gs : Graphs) (few : (planned p gs (tables p)).cells ≤ nowhere) where
  abbrev w : Whole
  w = whole (plan p gs (tables p))

  abbrev Key : ℕ → Type 0
  Key = IsKeyCell p gs (tables p)

  place_keyish : (a : Assignment) → length a.cells ≤ nowhere → HasKeys Key w.tables.classes a → (s : ℕ) → is_keyish (at a (w.places.key s)) ≡ true
  place_keyish a small keys s = by (key_place p gs (tables p) s)
    where
      by : (w.places.key s ≡ nowhere) ⊎ Key (w.places.key s) → is_keyish (at a (w.places.key s)) ≡ true
      by (inl e) = ap is_keyish (get_or_past a.cells (w.places.key s) Nothing (omega (arith, e, small)))
      by (inr key) = keys (w.places.key s) key

  grown_keys : (a : Assignment) → Grown w.tables.classes (rules w) (start (planned p gs (tables p))) a → (length a.cells ≤ nowhere) × HasKeys Key w.tables.classes a
  grown_keys _ begin = (
    let e : length (start (planned p gs (tables p))).cells ≡ (planned p gs (tables p)).cells = length-replicate (planned p gs (tables p)).cells Nothing in omega (arith, e, few),
    λ c key. ap is_keyish (nothing_at (planned p gs (tables p)).cells c),
  )
  grown_keys _ (step a r g) =
      let h = grown_keys a g in (
        (let e = meet_cells Key w.tables.classes (rules w r a) a in let le = h.0 in omega (arith, e, le)),
        meet_keys Key w.tables.classes (rules w r a) a (one_fine Key (needs w a) r (needs_fine Key w (are_apart p gs (tables p) few) a (place_keyish a h.0 h.1))) h.1,
      )

pub programs_have_keys : ProgramsHaveKeys
programs_have_keys p gs n types s =
    let few = types.small.cells in
    let grew = types.settled.grew in
    let h = grown_keys p gs few grew.grown grew.is_grown.grown in
    let c = (whole (plan p gs (tables p))).places.key (leader (assignment types.state).same s) in
    let key : is_key (at grew.grown c) ≡ true =
    key_of (is_key (at grew.grown c)) (is_clash (at grew.grown c)) (place_keyish p gs few grew.grown h.0 h.1 (leader (assignment types.state).same s)) (grew.is_grown.free c ((is_placed p gs (tables p)).key_spots (leader (assignment types.state).same s))) in
    ap (λ (b : Assignment). is_key (at b c)) grew.named ∙ ap is_key (mapped_at (named grew.grown.same) refl grew.grown.cells c) ∙ named_key grew.grown.same (at grew.grown c) ∙ key
