-- Each block that is held is one of an object that is held, or stands for a string or tuple among the roots or in such an object.
use Rattle.std.proofs.Common.{◌≡◌, ◌<◌, ◌≤◌, ◌⊎◌, inl, inr, ℕ, zero, suc, ◌+◌, List, [], ◌∷◌, ◌++◌, length, Option, refl, sym, ap, subst, arith, length-append}
use Rattle.std.specs.Prelude.{sum_by}
use Rattle.std.specs.List.{flat_map}
use Rattle.std.proofs.lemmas.List.Sums.{sum_by-cons}
use Rattle.csub_tree.specs.State.{Value, Ptr, Block}
use Rattle.rpy_tree.specs.Value.{Value as Meant, Text, Tuple, Ref, Values, none, more, Heap}
use Rattle.rpy_tree.specs.Held.{refs, refs_of, texts, texts_of}
use Rattle.ll_held.specs.Held.{times, Refers, Reaches, Next as NextBlock, Then as ThenBlock, Held, Root as RootBlock, Cycle as OnCycle, From as FromBlock}
use Rattle.ll_held.proofs.Keeping.{at_head}
use Rattle.ll_bounded.specs.Represents.{IsIn, parts_list, Stands, elsewhere, string, tuple, object, AllStand, nil, cons, Represents, kept_refs, HeapReaches, Next, Then, HeapHeld, Root, Cycle, From}

-- ---- lists

pub in_left : (a : ℕ) (xs ys : List ℕ) → IsIn a xs → IsIn a (xs ++ ys)
in_left a [] ys h = absurd h
in_left a (x ∷ xs) ys (inl e) = inl e
in_left a (x ∷ xs) ys (inr h) = inr (in_left a xs ys h)

pub in_right : (a : ℕ) (xs ys : List ℕ) → IsIn a ys → IsIn a (xs ++ ys)
in_right a [] ys h = h
in_right a (x ∷ xs) ys h = inr (in_right a xs ys h)

pub in_either : (a : ℕ) (xs ys : List ℕ) → IsIn a (xs ++ ys) → IsIn a xs ⊎ IsIn a ys
in_either a [] ys h = inr h
in_either a (x ∷ xs) ys (inl e) = inl (inl e)
in_either a (x ∷ xs) ys (inr h) = one (in_either a xs ys h)
  where
    one : IsIn a xs ⊎ IsIn a ys → IsIn a (x ∷ xs) ⊎ IsIn a ys
    one (inl h) = inl (inr h)
    one (inr h) = inr h

-- what stands in a list of values
abbrev pub Among : Meant → List Meant → Type 0
Among v [] = ⊥
Among v (u ∷ us) = (v ≡ u) ⊎ Among v us

refs_among : (i : ℕ) (v : Meant) (vs : List Meant) → Among v vs → IsIn i (refs v) → IsIn i (flat_map refs vs)
refs_among i v [] m h = absurd m
refs_among i v (u ∷ vs) (inl e) h = in_left i (refs u) (flat_map refs vs) (subst (λ w. IsIn i (refs w)) e h)
refs_among i v (u ∷ vs) (inr m) h = in_right i (refs u) (flat_map refs vs) (refs_among i v vs m h)

refs_parts : (i : ℕ) (parts : Values) → IsIn i (flat_map refs (parts_list parts)) → IsIn i (refs_of parts)
refs_parts i none h = h
refs_parts i (more v vs) h = one (in_either i (refs v) (flat_map refs (parts_list vs)) h) (refs_parts i vs)
  where
    one : IsIn i (refs v) ⊎ IsIn i (flat_map refs (parts_list vs)) → (IsIn i (flat_map refs (parts_list vs)) → IsIn i (refs_of vs)) → IsIn i (refs v ++ refs_of vs)
    one (inl h) go = in_left i (refs v) (refs_of vs) h
    one (inr h) go = in_right i (refs v) (refs_of vs) (go h)

-- ---- sizes

abbrev mutual
  size : Meant → ℕ
  size (Tuple parts) = suc (sizes parts)
  size other = 1

  sizes : Values → ℕ
  sizes none = 0
  sizes (more v vs) = size v + sizes vs

among_parts : (v : Meant) (parts : Values) → Among v (parts_list parts) → size v < suc (sizes parts)
among_parts v none m = absurd m
among_parts v (more u us) (inl e) = let a : size v ≡ size u = ap size e in omega (arith, a)
among_parts v (more u us) (inr m) = let a : size v < suc (sizes us) = among_parts v us m in omega (arith, a)

parts_sum : (parts : Values) → sum_by texts (parts_list parts) ≡ texts_of parts
parts_sum none = refl
parts_sum (more v vs) = let a : sum_by texts (v ∷ parts_list vs) ≡ texts v + sum_by texts (parts_list vs) = sum_by-cons texts v (parts_list vs) in let b : sum_by texts (parts_list vs) ≡ texts_of vs = parts_sum vs in omega (arith, a, b)

-- ---- values

module _ (blocks : List (Option Block)) (own : ℕ → List ℕ) where
  -- the blocks that stand for strings and tuples in a value
  unfoldable mutual
    pub cover : {x : Value} {v : Meant} → Stands blocks own x v → List ℕ
    cover (elsewhere n) = []
    cover (string {b = b} o n) = b ∷ []
    cover (tuple {b = b} o all) = b ∷ covers all
    cover (object h) = []

    pub covers : {xs : List Value} {vs : List Meant} → AllStand blocks own xs vs → List ℕ
    covers nil = []
    covers (cons s all) = cover s ++ covers all

  -- what stands for the value at which a cell leads to a block
  pub record Cell (c : ℕ) {xs : List Value} {vs : List Meant} (all : AllStand blocks own xs vs) : Type 0 where
    pub value : Meant
    pub block : ℕ
    pub same : block ≡ c
    pub among : Among value vs
    pub stands : Stands blocks own (Ptr block) value
    pub covered : (a : ℕ) → IsIn a (cover stands) → IsIn a (covers all)

  pub cell : (c : ℕ) {xs : List Value} {vs : List Meant} (all : AllStand blocks own xs vs) → 0 < times c xs → Cell c all
  unfolding cover covers
  cell c nil h = absurd (omega (arith, h))
  cell c (cons {x = x} {v = v} {xs = xs} {vs = vs} s all) h = one (at_head c x xs h) (cell c all)
    where
      on : {x : Value} {v : Meant} (s : Stands blocks own x v) → x ≡ Ptr c → Cell c (cons s all)
      on (elsewhere n) e = absurd (n c e)
      on (string {b = b} {bytes = bytes} o n) e = record { value = Text bytes; block = b; same = cc; among = inl refl; stands = string o n; covered = λ a m. in_left a (b ∷ []) (covers all) m }
      on (tuple {b = b} {parts = parts} o inside) e = record { value = Tuple parts; block = b; same = cc; among = inl refl; stands = tuple o inside; covered = λ a m. in_left a (b ∷ covers inside) (covers all) m }
      on (object {b = b} {i = i} g) e = record { value = Ref i; block = b; same = cc; among = inl refl; stands = object g; covered = λ a m. in_left a [] (covers all) m }

      one : (x ≡ Ptr c) ⊎ (0 < times c xs) → (0 < times c xs → Cell c all) → Cell c (cons s all)
      one (inl e) go = on s e
      one (inr h) go = let k = go h in record { value = k.value; block = k.block; same = k.same; among = inr k.among; stands = k.stands; covered = λ a m. in_right a (cover s) (covers all) (k.covered a m) }

  -- where what leads to a block leads: to one that stands for a string or tuple, or to one of an object that is referred to
  abbrev pub Led : ℕ → List ℕ → List ℕ → Type 0
  Led c covered referred = IsIn c covered ⊎ ((i : ℕ) × IsIn i referred × IsIn c (own i))

  head_led : {b : ℕ} {v : Meant} (s : Stands blocks own (Ptr b) v) (c : ℕ) → b ≡ c → Led c (cover s) (refs v)
  unfolding cover
  head_led {b = b} (elsewhere n) c e = absurd (n b refl)
  head_led (string o n) c e = inl (inl (sym e))
  head_led (tuple o all) c e = inl (inl (sym e))
  head_led (object {i = i} g) c e = inr (i, inl refl, subst (λ k. IsIn k (own i)) e g)

  -- a cell
  pub cells_led : (c : ℕ) {xs : List Value} {vs : List Meant} (all : AllStand blocks own xs vs) → 0 < times c xs → Led c (covers all) (flat_map refs vs)
  cells_led c {vs = vs} all h = one (head_led k.stands c k.same)
    where
      k : Cell c all
      k = cell c all h

      one : Led c (cover k.stands) (refs k.value) → Led c (covers all) (flat_map refs vs)
      one (inl m) = inl (k.covered c m)
      one (inr (i, r, o)) = inr (i, refs_among i k.value vs k.among r, o)

  -- an edge from a block that stands for a string or tuple
  mutual
    unfolding cover covers

    pub cover_led : {x : Value} {v : Meant} (s : Stands blocks own x v) (a c : ℕ) → IsIn a (cover s) → Refers blocks a c → Led c (cover s) (refs v)
    cover_led (elsewhere n) a c m r = absurd m
    cover_led (object g) a c m r = absurd m
    cover_led (string {b = b} o n) a c (inl e) r = absurd (n c (subst (λ k. Refers blocks k c) e r))
    cover_led (string o n) a c (inr m) r = absurd m
    cover_led (tuple {b = b} {parts = parts} o all) a c (inl e) r = one (cells_led c all (subst (λ k. Refers blocks k c) e r))
      where
        one : Led c (covers all) (flat_map refs (parts_list parts)) → Led c (b ∷ covers all) (refs_of parts)
        one (inl m) = inl (inr m)
        one (inr (i, h, g)) = inr (i, refs_parts i parts h, g)
    cover_led (tuple {b = b} {parts = parts} o all) a c (inr m) r = one (covers_led all a c m r)
      where
        one : Led c (covers all) (flat_map refs (parts_list parts)) → Led c (b ∷ covers all) (refs_of parts)
        one (inl m) = inl (inr m)
        one (inr (i, h, g)) = inr (i, refs_parts i parts h, g)

    pub covers_led : {xs : List Value} {vs : List Meant} (all : AllStand blocks own xs vs) (a c : ℕ) → IsIn a (covers all) → Refers blocks a c → Led c (covers all) (flat_map refs vs)
    covers_led nil a c m r = absurd m
    covers_led (cons {v = v} {vs = vs} s all) a c m r = one (λ k. cover_led s a c k r) (λ k. covers_led all a c k r) (in_either a (cover s) (covers all) m)
      where
        left : Led c (cover s) (refs v) → Led c (cover s ++ covers all) (refs v ++ flat_map refs vs)
        left (inl k) = inl (in_left c (cover s) (covers all) k)
        left (inr (i, h, g)) = inr (i, in_left i (refs v) (flat_map refs vs) h, g)

        right : Led c (covers all) (flat_map refs vs) → Led c (cover s ++ covers all) (refs v ++ flat_map refs vs)
        right (inl k) = inl (in_right c (cover s) (covers all) k)
        right (inr (i, h, g)) = inr (i, in_right i (refs v) (flat_map refs vs) h, g)

        one : (IsIn a (cover s) → Led c (cover s) (refs v)) → (IsIn a (covers all) → Led c (covers all) (flat_map refs vs)) → IsIn a (cover s) ⊎ IsIn a (covers all) → Led c (cover s ++ covers all) (refs v ++ flat_map refs vs)
        one f g (inl k) = left (f k)
        one f g (inr k) = right (g k)

  -- no block of an object stands for a string or tuple
  mutual
    unfolding cover covers

    pub cover_apart : {x : Value} {v : Meant} (s : Stands blocks own x v) (a i : ℕ) → IsIn a (cover s) → IsIn a (own i) → ⊥
    cover_apart (elsewhere n) a i m h = m
    cover_apart (object g) a i m h = m
    cover_apart (string o n) a i (inl e) h = o i (subst (λ k. IsIn k (own i)) e h)
    cover_apart (string o n) a i (inr m) h = m
    cover_apart (tuple o all) a i (inl e) h = o i (subst (λ k. IsIn k (own i)) e h)
    cover_apart (tuple o all) a i (inr m) h = covers_apart all a i m h

    pub covers_apart : {xs : List Value} {vs : List Meant} (all : AllStand blocks own xs vs) (a i : ℕ) → IsIn a (covers all) → IsIn a (own i) → ⊥
    covers_apart nil a i m h = m
    covers_apart (cons s all) a i m h = one (λ k. cover_apart s a i k h) (λ k. covers_apart all a i k h) (in_either a (cover s) (covers all) m)
      where
        one : (IsIn a (cover s) → ⊥) → (IsIn a (covers all) → ⊥) → IsIn a (cover s) ⊎ IsIn a (covers all) → ⊥
        one f g (inl k) = f k
        one f g (inr k) = g k

  -- they are no more than the strings and tuples
  mutual
    unfolding cover covers

    pub cover_few : {x : Value} {v : Meant} (s : Stands blocks own x v) → length (cover s) ≤ texts v
    cover_few (elsewhere n) = omega arith
    cover_few (object g) = omega arith
    cover_few (string o n) = omega arith
    cover_few (tuple {parts = parts} o all) = let a : length (covers all) ≤ sum_by texts (parts_list parts) = covers_few all in let e : sum_by texts (parts_list parts) ≡ texts_of parts = parts_sum parts in omega (arith, a, e)

    pub covers_few : {xs : List Value} {vs : List Meant} (all : AllStand blocks own xs vs) → length (covers all) ≤ sum_by texts vs
    covers_few nil = omega arith
    covers_few (cons {v = v} {vs = vs} s all) =
        let a : length (cover s) ≤ texts v = cover_few s in let b : length (covers all) ≤ sum_by texts vs = covers_few all in
        let c : length (cover s ++ covers all) ≡ length (cover s) + length (covers all) = length-append (cover s) (covers all) in
        let d : sum_by texts (v ∷ vs) ≡ texts v + sum_by texts vs = sum_by-cons texts v vs in omega (arith, a, b, c, d)

-- ---- ways through memory

module _ (prebuilt : ℕ) (heap : Heap) (blocks : List (Option Block)) (own : ℕ → List ℕ) (kept : ℕ → List Value) (rank : ℕ → ℕ) (r : Represents prebuilt heap blocks own kept rank) where
  -- what stands for what is kept in an object
  unfoldable pub inside : ℕ → List ℕ
  inside i = covers blocks own (r.stand i)

  heap_next : (i j k : ℕ) → HeapReaches heap i j → IsIn k (kept_refs heap j) → HeapReaches heap i k
  heap_next i j k w h = Then w h

  -- where a way from a block of an object leads
  data Reach (i from b : ℕ) : Type 0 where
    another : IsIn b (own i) → rank b < rank from → Reach i from b
    within : IsIn b (inside i) → Reach i from b
    other : (j : ℕ) → HeapReaches heap i j → IsIn b (own j) → Reach i from b
    within_other : (j : ℕ) → HeapReaches heap i j → IsIn b (inside j) → Reach i from b

  from_kept : (i b c : ℕ) → IsIn b (inside i) → Refers blocks b c → Led blocks own c (inside i) (kept_refs heap i)
  unfolding inside
  from_kept i b c m e = covers_led blocks own (r.stand i) b c m e

  from_own : (i b c : ℕ) → IsIn b (own i) → Refers blocks b c → (IsIn c (own i) × (rank c < rank b)) ⊎ Led blocks own c (inside i) (kept_refs heap i)
  unfolding inside
  from_own i b c m e = one (r.from i b c m e)
    where
      one : (IsIn c (own i) × (rank c < rank b)) ⊎ (0 < times c (kept i)) → (IsIn c (own i) × (rank c < rank b)) ⊎ Led blocks own c (covers blocks own (r.stand i)) (kept_refs heap i)
      one (inl h) = inl h
      one (inr h) = inr (cells_led blocks own c (r.stand i) h)

  first_reach : (i b c : ℕ) → IsIn b (own i) → Refers blocks b c → Reach i b c
  first_reach i b c m e = one (from_own i b c m e)
    where
      one : (IsIn c (own i) × (rank c < rank b)) ⊎ Led blocks own c (inside i) (kept_refs heap i) → Reach i b c
      one (inl (o, l)) = another o l
      one (inr (inl k)) = within k
      one (inr (inr (j, h, o))) = other j (Next h) o

  next_reach : (i from b c : ℕ) → Reach i from b → Refers blocks b c → Reach i from c
  next_reach i from b c (another o l) e = one (from_own i b c o e)
    where
      one : (IsIn c (own i) × (rank c < rank b)) ⊎ Led blocks own c (inside i) (kept_refs heap i) → Reach i from c
      one (inl (k, m)) = another k (omega (arith, l, m))
      one (inr (inl k)) = within k
      one (inr (inr (j, h, k))) = other j (Next h) k
  next_reach i from b c (within m) e = one (from_kept i b c m e)
    where
      one : Led blocks own c (inside i) (kept_refs heap i) → Reach i from c
      one (inl k) = within k
      one (inr (j, h, k)) = other j (Next h) k
  next_reach i from b c (other j w o) e = one (from_own j b c o e)
    where
      one : (IsIn c (own j) × (rank c < rank b)) ⊎ Led blocks own c (inside j) (kept_refs heap j) → Reach i from c
      one (inl (k, m)) = other j w k
      one (inr (inl k)) = within_other j w k
      one (inr (inr (k, h, o))) = other k (Then w h) o
  next_reach i from b c (within_other j w m) e = one (from_kept j b c m e)
    where
      one : Led blocks own c (inside j) (kept_refs heap j) → Reach i from c
      one (inl k) = within_other j w k
      one (inr (k, h, o)) = other k (Then w h) o

  further : (i from b c : ℕ) → Reach i from b → Reaches blocks b c → Reach i from c
  further i from b c h (NextBlock e) = next_reach i from b c h e
  further i from b c h (ThenBlock {b = d} e w) = further i from d c (next_reach i from b d h e) w

  reach : (i b c : ℕ) → IsIn b (own i) → Reaches blocks b c → Reach i b c
  reach i b c m (NextBlock e) = first_reach i b c m e
  reach i b c m (ThenBlock {b = d} e w) = further i b d c (first_reach i b d m e) w

  inside_apart : (i j b : ℕ) → IsIn b (inside j) → IsIn b (own i) → ⊥
  unfolding inside
  inside_apart i j b m o = covers_apart blocks own (r.stand j) b i m o

  -- a cycle through a block of an object is a cycle of objects
  own_cycle : (i b : ℕ) → IsIn b (own i) → Reaches blocks b b → HeapReaches heap i i
  own_cycle i b m w = one (reach i b b m w)
    where
      one : Reach i b b → HeapReaches heap i i
      one (another o l) = absurd (omega (arith, l))
      one (within k) = absurd (inside_apart i i b k m)
      one (other j v o) = subst (HeapReaches heap i) (r.apart b j i o m) v
      one (within_other j v k) = absurd (inside_apart i j b k m)

  -- ---- cycles through tuples pass through an object

  join : {a b c : ℕ} → Reaches blocks a b → Reaches blocks b c → Reaches blocks a c
  join (NextBlock e) w = ThenBlock e w
  join (ThenBlock e v) w = ThenBlock e (join v w)

  -- a block of an object on a way
  record Passes (a d : ℕ) : Type 0 where
    block : ℕ
    object : ℕ
    is_own : IsIn block (own object)
    before : Reaches blocks a block
    behind : (block ≡ d) ⊎ Reaches blocks block d

  -- a way from what stands for a tuple leads through an object, or to what stands for a smaller value
  Smaller : ℕ → ℕ → Type 0
  Smaller d n = (v : Meant) × (b : ℕ) × (b ≡ d) × Stands blocks own (Ptr b) v × (size v < n)

  smaller : (c n : ℕ) (parts : Values) {xs : List Value} (all : AllStand blocks own xs (parts_list parts)) → Cell blocks own c all → suc (sizes parts) ≤ n → Smaller c n
  unfolding Smaller
  smaller c n parts all k le = (k.value, k.block, k.same, k.stands, (let a : size k.value < suc (sizes parts) = among_parts k.value parts k.among in omega (arith, a, le)))

  abbrev Walked : ℕ → ℕ → ℕ → Type 0
  Walked a d n = ((i : ℕ) × IsIn a (own i)) ⊎ (Passes a d ⊎ Smaller d n)

  further_walked : (a c d n : ℕ) → Refers blocks a c → Reaches blocks c d → Walked c d n → Walked a d n
  further_walked a c d n e w (inl (i, o)) = inr (inl (record { block = c; object = i; is_own = o; before = NextBlock e; behind = inr w }))
  further_walked a c d n e w (inr (inl p)) = inr (inl (record { block = p.block; object = p.object; is_own = p.is_own; before = ThenBlock e p.before; behind = p.behind }))
  further_walked a c d n e w (inr (inr s)) = inr (inr s)

  less_walked : (a d m n : ℕ) → m ≤ n → Walked a d m → Walked a d n
  unfolding Smaller
  less_walked a d m n le (inl o) = inl o
  less_walked a d m n le (inr (inl p)) = inr (inl p)
  less_walked a d m n le (inr (inr (v, b, e, s, l))) = inr (inr (v, b, e, s, omega (arith, le, l)))

  walk : (a d : ℕ) {b : ℕ} {v : Meant} → b ≡ a → Stands blocks own (Ptr b) v → Reaches blocks a d → Walked a d (size v)
  walk a d {b = b} same (elsewhere n) w = absurd (n b refl)
  walk a d same (object {i = i} g) w = inl (i, subst (λ k. IsIn k (own i)) same g)
  walk a d {b = b} same (string o n) w = absurd (one w)
    where
      one : {d : ℕ} → Reaches blocks a d → ⊥
      one (NextBlock {b = c} e) = n c (subst (λ k. Refers blocks k c) (sym same) e)
      one (ThenBlock {b = c} e w) = n c (subst (λ k. Refers blocks k c) (sym same) e)
  walk a d same (tuple {parts = parts} o all) (NextBlock e) = inr (inr (smaller d (suc (sizes parts)) parts all (cell blocks own d all (subst (λ k. Refers blocks k d) (sym same) e)) (omega arith)))
  walk a d same (tuple {parts = parts} o all) (ThenBlock {b = c} e w) =
      let k = cell blocks own c all (subst (λ k. Refers blocks k c) (sym same) e) in
      let l : size k.value < suc (sizes parts) = among_parts k.value parts k.among in
      further_walked a c d (suc (sizes parts)) e w (less_walked c d (size k.value) (suc (sizes parts)) (omega (arith, l)) (walk c d k.same k.stands w))

  round : (n a : ℕ) {b : ℕ} {v : Meant} → size v < n → b ≡ a → Stands blocks own (Ptr b) v → Reaches blocks a a → ((i : ℕ) × IsIn a (own i)) ⊎ Passes a a
  unfolding Smaller
  round zero a l same s w = absurd (omega (arith, l))
  round (suc n) a {v = v} l same s w = one (walk a a same s w) (λ v b e s l. round n a l e s w)
    where
      one : Walked a a (size v) → ((v : Meant) (b : ℕ) → b ≡ a → Stands blocks own (Ptr b) v → size v < n → ((i : ℕ) × IsIn a (own i)) ⊎ Passes a a) → ((i : ℕ) × IsIn a (own i)) ⊎ Passes a a
      one (inl o) go = inl o
      one (inr (inl p)) go = inr p
      one (inr (inr (u, b, e, s, m))) go = go u b e s (omega (arith, l, m))

  -- ---- what a held block is for

  module _ (roots : List Value) (holds : List Meant) (ls : List Value) (all : AllStand blocks own ls holds) (among : (b : ℕ) → 0 < times b roots → 0 < times b ls) where
    unfoldable pub at_roots : List ℕ
    at_roots = covers blocks own all

    pub data Charged (b : ℕ) : Type 0 where
      of_object : (i : ℕ) → HeapHeld heap holds i → IsIn b (own i) → Charged b
      in_object : (i : ℕ) → HeapHeld heap holds i → prebuilt ≤ i → i < length heap → IsIn b (inside i) → Charged b
      of_root : IsIn b at_roots → Charged b

    charged_next : (a b : ℕ) → Charged a → Refers blocks a b → Charged b
    unfolding at_roots
    charged_next a b (of_object i h m) e = one (from_own i a b m e)
      where
        one : (IsIn b (own i) × (rank b < rank a)) ⊎ Led blocks own b (inside i) (kept_refs heap i) → Charged b
        one (inl (o, l)) = of_object i h o
        one (inr (inl k)) = in_object i h (r.none a i m) (r.there a i m) k
        one (inr (inr (j, n, o))) = of_object j (From h n) o
    charged_next a b (in_object i h le lt m) e = one (from_kept i a b m e)
      where
        one : Led blocks own b (inside i) (kept_refs heap i) → Charged b
        one (inl k) = in_object i h le lt k
        one (inr (j, n, o)) = of_object j (From h n) o
    charged_next a b (of_root m) e = one (covers_led blocks own all a b m e)
      where
        one : Led blocks own b (covers blocks own all) (flat_map refs holds) → Charged b
        one (inl k) = of_root k
        one (inr (j, n, o)) = of_object j (Root n) o

    charged_along : {a b : ℕ} → Charged a → Reaches blocks a b → Charged b
    charged_along {a = a} h (NextBlock {b = b} e) = charged_next a b h e
    charged_along {a = a} h (ThenBlock {b = c} e w) = charged_along (charged_next a c h e) w

    last_edge : {a b : ℕ} → Reaches blocks a b → (c : ℕ) × Refers blocks c b
    last_edge {a = a} (NextBlock e) = (a, e)
    last_edge (ThenBlock e w) = last_edge w

    own_charged : (i b : ℕ) → IsIn b (own i) → Reaches blocks b b → Charged b
    own_charged i b o w = of_object i (Cycle (own_cycle i b o w)) o

    passes_charged : (b : ℕ) → Reaches blocks b b → Passes b b → Charged b
    passes_charged b w p = one p.behind
      where
        one : (p.block ≡ b) ⊎ Reaches blocks p.block b → Charged b
        one (inl e) = own_charged p.object b (subst (λ k. IsIn k (own p.object)) e p.is_own) w
        one (inr v) = charged_along (own_charged p.object p.block p.is_own (join v p.before)) v

    cycle_charged : (b : ℕ) → Reaches blocks b b → Charged b
    cycle_charged b w = one (last_edge w)
      where
        three : ((i : ℕ) × IsIn b (own i)) ⊎ Passes b b → Charged b
        three (inl (i, o)) = own_charged i b o w
        three (inr p) = passes_charged b w p

        two : ((i : ℕ) × IsIn b (own i)) ⊎ ((v : Meant) × Stands blocks own (Ptr b) v) → Charged b
        two (inl (i, o)) = own_charged i b o w
        two (inr (v, s)) = three (round (suc (size v)) b (omega arith) refl s w)

        one : (c : ℕ) × Refers blocks c b → Charged b
        one (c, e) = two (r.to c b e)

    pub charged : {b : ℕ} → Held blocks roots b → Charged b
    unfolding at_roots
    charged (RootBlock {b = b} h) = one (cells_led blocks own b all (among b h))
      where
        one : Led blocks own b (covers blocks own all) (flat_map refs holds) → Charged b
        one (inl k) = of_root k
        one (inr (j, n, o)) = of_object j (Root n) o
    charged (OnCycle {b = b} w) = cycle_charged b w
    charged (FromBlock {a = a} {b = b} h e) = charged_next a b (charged h) e
