-- What statics are for, while the lists and dicts of modules are made one after the other.
use Rattle.std.proofs.Common.{◌≡◌, ◌<◌, ◌⊎◌, inl, inr, ℕ, zero, suc, ◌+◌, ◌==◌, Bool, true, false, List, ◌∷◌, ◌++◌, length, map, slice_get, Some, None, pos, refl, sym, ap, ◌∙◌, subst, arith, length-append, []}
use Rattle.std.specs.Prelude.{if◌then◌else◌}
use Rattle.std.proofs.lemmas.Bool.Decides.{eqb_tells}
use Rattle.csub_tree.specs.State.{Block}
use Rattle.csub_tree.specs.Layout.{constant}
use Rattle.csub_tree.specs.declared.tree.CConst.{CConst}
use Rattle.csub_tree.specs.declared.tree.CConst.TheVariants as low
use Rattle.csub_tree.specs.declared.tree.CStatic.{CStatic}
use Rattle.ll_code.specs.declared.program.LlType.{LlType}
use Rattle.ll_code.specs.declared.program.LlProgram.{LlProgram}
use Rattle.rpy_tree.specs.Value.{Value as Meant}
use Rattle.rpy_tree.specs.declared.program.Const.{Const}
use Rattle.rpy_tree.specs.declared.program.Site.{Site}
use Rattle.rpy_meaning.specs.Operations.{constant as meant_of, object_of}
use Rattle.rtyper_layout.specs.declared.dicts.Mapping.{Mapping}
use Rattle.rtyper_layout.specs.Dicts.{first, second, keys_last, is_indexed, stored_key, stored_value}
use Rattle.rtyper_layout.specs.Layout.{mapping_at}
use Rattle.rtyper_layout.specs.Types.{word}
use Rattle.rtyper_data.specs.Finding.{prebuilt_at, same_type}
use Rattle.rtyper_data.specs.Seen.{Around}
use Rattle.rtyper_op.specs.Mapped.{as_word}
use Rattle.growth_laws.specs.Growing.{Begins}
use Rattle.growth_laws.proofs.Fronts.{further, itself, stays}
use Rattle.object_laws.specs.Dicts.{hash, IsIndexIf}
use Rattle.object_laws.specs.Done.{HasLayout}
use Rattle.object_laws.specs.Ghost.{Ghost, Use, Stays, Head, Array, Table, First, Second}
use Rattle.object_laws.specs.Known.{Known}
use Rattle.object_laws.specs.Represents.{is_settled}
use Rattle.object_laws.specs.Values.{EachHolds}
use Rattle.layout_laws.proofs.Places.{same_some, no_some, not_true, is_same}
use Rattle.start_laws.specs.Constants.{IsSite}
use Rattle.start_laws.proofs.Serving.{Kept, block_of, flat_static, array_static, map_long, Texts, texts_before, Homes}

-- ---- lists that become longer

pub get_first : {A : Type 0} (xs ys : List A) (i : ℕ) → i < length xs → slice_get (xs ++ ys) i ≡ slice_get xs i
get_first [] ys i lt = absurd (omega (arith, lt))
get_first (x ∷ xs) ys zero lt = refl
get_first (x ∷ xs) ys (suc i) lt = get_first xs ys i (omega (arith, lt))

pub get_behind : {A : Type 0} (xs ys : List A) (s i : ℕ) → s ≡ length xs + i → slice_get (xs ++ ys) s ≡ slice_get ys i
get_behind [] ys s i e = ap (slice_get ys) (let z : s ≡ i = omega (arith, e) in z)
get_behind (x ∷ xs) ys zero i e = absurd (omega (arith, e))
get_behind (x ∷ xs) ys (suc s) i e = get_behind xs ys s i (omega (arith, e))

pub get_map : {A B : Type 0} (f : A → B) (xs : List A) (i : ℕ) (x : A) → slice_get xs i ≡ Some x → slice_get (map f xs) i ≡ Some (f x)
get_map f [] i x h = absurd (no_some h)
get_map f (y ∷ xs) zero x h = ap (λ z. Some (f z)) (same_some h)
get_map f (y ∷ xs) (suc i) x h = get_map f xs i x h

-- it is one of the first or one of the others
pub data Split {A : Type 0} (xs ys : List A) (s : ℕ) (x : A) : Type 0 where
  Left : s < length xs → slice_get xs s ≡ Some x → Split xs ys s x
  Right : (i : ℕ) → s ≡ length xs + i → slice_get ys i ≡ Some x → Split xs ys s x

pub split : {A : Type 0} (xs ys : List A) (s : ℕ) (x : A) → slice_get (xs ++ ys) s ≡ Some x → Split xs ys s x
split [] ys s x h = Right s (omega arith) h
split (y ∷ xs) ys zero x h = Left (omega arith) h
split (y ∷ xs) ys (suc s) x h = by (split xs ys s x h)
  where
    by : Split xs ys s x → Split (y ∷ xs) ys (suc s) x
    by (Left lt e) = Left (omega (arith, lt)) e
    by (Right i at e) = Right i (omega (arith, at)) e

pub last_only : {A : Type 0} (y : A) (i : ℕ) (x : A) → slice_get (y ∷ []) i ≡ Some x → (i ≡ 0) × (y ≡ x)
last_only y zero x h = (refl, same_some h)
last_only y (suc i) x h = absurd (no_some h)

-- ---- which sites are made

pub one_kept : (made : List (ℕ × ℕ)) (it : ℕ × ℕ) → Kept made (made ++ it ∷ [])
one_kept [] it site number h = absurd (no_some h)
one_kept (p ∷ made) it site number h = by (one_kept made it site number) (p.0 == site) h
  where
    by : (prebuilt_at made site ≡ Some number → prebuilt_at (made ++ it ∷ []) site ≡ Some number) → (b : Bool) → (if b then Some p.1 else prebuilt_at made site) ≡ Some number → (if b then Some p.1 else prebuilt_at (made ++ it ∷ []) site) ≡ Some number
    by rest true h = h
    by rest false h = rest h

-- a site that was not made is made then
pub one_made : (made : List (ℕ × ℕ)) (site number : ℕ) → prebuilt_at made site ≡ None → prebuilt_at (made ++ (site, number) ∷ []) site ≡ Some number
one_made [] site number h = elim (eqb_tells site site) [ inl t ↦ ap (λ b. if b then Some number else None) t.0 | inr t ↦ absurd (t.1 refl) ]
one_made (p ∷ made) site number h = by (one_made made site number) (p.0 == site) h
  where
    by : (prebuilt_at made site ≡ None → prebuilt_at (made ++ (site, number) ∷ []) site ≡ Some number) → (b : Bool) → (if b then Some p.1 else prebuilt_at made site) ≡ None → (if b then Some p.1 else prebuilt_at (made ++ (site, number) ∷ []) site) ≡ Some number
    by rest true h = absurd (no_some (sym h))
    by rest false h = rest h

-- and no other
pub only_made : (made : List (ℕ × ℕ)) (site number other k : ℕ) → prebuilt_at (made ++ (site, number) ∷ []) other ≡ Some k → (prebuilt_at made other ≡ Some k) ⊎ ((site ≡ other) × (number ≡ k))
only_made [] site number other k h = by (site == other) refl h
  where
    by : (b : Bool) → (site == other) ≡ b → (if b then Some number else None) ≡ Some k → (None ≡ Some k) ⊎ ((site ≡ other) × (number ≡ k))
    by true e h = inr (is_same site other e, same_some h)
    by false e h = absurd (no_some h)
only_made (p ∷ made) site number other k h = by (only_made made site number other k) (p.0 == other) h
  where
    by : (prebuilt_at (made ++ (site, number) ∷ []) other ≡ Some k → (prebuilt_at made other ≡ Some k) ⊎ ((site ≡ other) × (number ≡ k))) → (b : Bool) → (if b then Some p.1 else prebuilt_at (made ++ (site, number) ∷ []) other) ≡ Some k → ((if b then Some p.1 else prebuilt_at made other) ≡ Some k) ⊎ ((site ≡ other) × (number ≡ k))
    by rest true h = inl h
    by rest false h = rest h

-- ---- what is built

abbrev pub count : ℕ → CConst
count n = low.Word (pos n)

-- a constant of the first type in an array of items of the second one
abbrev pub kept_as : LlType → LlType → CConst → CConst
kept_as kind item c = if same_type item kind then c else as_word c

abbrev pub numbers : List ℕ → List CConst
numbers words = map count words

abbrev pub firsts : Mapping → List CConst → List CConst → List CConst
firsts m keys values = if keys_last m then map (kept_as m.value (stored_value m)) values else map (kept_as m.key (stored_key m)) keys

abbrev pub seconds : Mapping → List CConst → List CConst → List CConst
seconds m keys values = if keys_last m then map (kept_as m.key (stored_key m)) keys else map (kept_as m.value (stored_value m)) values

module _ (p : LlProgram) (around : Around) (known : Known) (sites : List Site) (same : List ℕ) (has : HasLayout p around.layout) where
  abbrev object : ℕ → ℕ
  object site = object_of known.program.sites site

  abbrev pub keys_meant : List (Const × Const) → List Meant
  keys_meant pairs = map (λ (q : Const × Const). meant_of known.program.sites q.0) pairs

  abbrev pub values_meant : List (Const × Const) → List Meant
  values_meant pairs = map (λ (q : Const × Const). meant_of known.program.sites q.1) pairs

  -- whenever these statics and sites stand in a ghost
  abbrev pub Stand : List CStatic → List (ℕ × ℕ) → (Ghost → Type 0) → Type 0
  Stand statics made So = (g : Ghost) → Texts p around.layout g statics → Homes p around known sites same has g made → So g

  pub stand_later : (So : Ghost → Type 0) (xs ys : List CStatic) (made after : List (ℕ × ℕ)) → Begins xs ys → Kept made after → Stand xs made So → Stand ys after So
  stand_later So xs ys made after b k so g texts homes = so g (texts_before p around.layout g xs ys b texts) (λ dict site n number is at. homes dict site n number is (k site number at))

  -- the list of a site, at its static
  pub record ListBuilt (statics : List CStatic) (made : List (ℕ × ℕ)) (uses : List Use) (site number n : ℕ) (pairs : List (Const × Const)) : Type 0 where
    pub array : ℕ
    pub values : List CConst
    pub head_is : slice_get statics number ≡ Some (flat_static n (count (length pairs) ∷ low.Static (word (n + 1)) array ∷ []))
    pub array_is : slice_get statics array ≡ Some (array_static (word (n + 1)) (count (length pairs)) values)
    pub head_use : slice_get uses number ≡ Some (Head (object site))
    pub array_use : slice_get uses array ≡ Some (Array (object site))
    pub holds : Stand statics made (λ g. EachHolds around.layout known g (known.items n) (map constant values) (values_meant pairs))

  -- the arrays of a dict
  pub record ArraysBuilt (statics : List CStatic) (uses : List Use) (site number : ℕ) (m : Mapping) (pairs : List (Const × Const)) (keys values : List CConst) : Type 0 where
    pub one : ℕ
    pub two : ℕ
    pub index : List ℕ
    pub head_is : slice_get statics number ≡ Some (flat_static m.dict (count (length pairs) ∷ count (length pairs) ∷ low.Static (first m) one ∷ low.Static (second m) two ∷ []))
    pub first_is : slice_get statics one ≡ Some (array_static (first m) (count (length (firsts m keys values))) (firsts m keys values))
    pub second_is : slice_get statics two ≡ Some (array_static (second m) (count (length (numbers index ++ seconds m keys values))) (numbers index ++ seconds m keys values))
    pub first_use : slice_get uses one ≡ Some (First (object site))
    pub second_use : slice_get uses two ≡ Some (Second (object site))
    pub indexed : IsIndexIf (is_indexed m) (map (hash around.layout m.key) (keys_meant pairs)) (length pairs) index

  -- there are none
  pub record NoneBuilt (statics : List CStatic) (number : ℕ) (m : Mapping) (pairs : List (Const × Const)) : Type 0 where
    pub empty : pairs ≡ []
    pub head_is : slice_get statics number ≡ Some (flat_static m.dict (count 0 ∷ count 0 ∷ low.Null ∷ low.Null ∷ []))

  pub record DictBuilt (statics : List CStatic) (made : List (ℕ × ℕ)) (uses : List Use) (site number : ℕ) (m : Mapping) (pairs : List (Const × Const)) : Type 0 where
    pub keys : List CConst
    pub values : List CConst
    pub head_use : slice_get uses number ≡ Some (Table (object site))
    pub each_key : Stand statics made (λ g. EachHolds around.layout known g (known.keys m.dict) (map constant keys) (keys_meant pairs))
    pub each_value : Stand statics made (λ g. EachHolds around.layout known g (known.items m.dict) (map constant values) (values_meant pairs))
    pub arrays : NoneBuilt statics number m pairs ⊎ ArraysBuilt statics uses site number m pairs keys values

  pub data SiteBuilt (statics : List CStatic) (made : List (ℕ × ℕ)) (uses : List Use) (site number : ℕ) : Type 0 where
    OfList : (n : ℕ) (pairs : List (Const × Const)) (it : IsSite around known sites same false site n) → it.of.prebuilt ≡ Some pairs → ListBuilt statics made uses site number n pairs → SiteBuilt statics made uses site number
    OfDict : (n : ℕ) (m : Mapping) (pairs : List (Const × Const)) (it : IsSite around known sites same true site n) → it.of.prebuilt ≡ Some pairs → mapping_at around.layout.mappings n ≡ Some m → DictBuilt statics made uses site number m pairs
        → SiteBuilt statics made uses site number

  -- it stays so
  pub site_later : {xs ys : List CStatic} {made after : List (ℕ × ℕ)} {uses more : List Use} {site number : ℕ} → Begins xs ys → Kept made after → Begins uses more → SiteBuilt xs made uses site number → SiteBuilt ys after more site number
  site_later {xs = xs} {ys = ys} {made = made} {after = after} {uses = uses} {more = more} {site = site} {number = number} b k u (OfList n pairs it is l) = OfList n pairs it is (record {
    array = l.array;
    values = l.values;
    head_is = stays xs ys number _ b l.head_is;
    array_is = stays xs ys l.array _ b l.array_is;
    head_use = stays uses more number _ u l.head_use;
    array_use = stays uses more l.array _ u l.array_use;
    holds = stand_later _ xs ys made after b k l.holds;
  })
  site_later {xs = xs} {ys = ys} {made = made} {after = after} {uses = uses} {more = more} {site = site} {number = number} b k u (OfDict n m pairs it is at d) = OfDict n m pairs it is at (record {
    keys = d.keys;
    values = d.values;
    head_use = stays uses more number _ u d.head_use;
    each_key = stand_later _ xs ys made after b k d.each_key;
    each_value = stand_later _ xs ys made after b k d.each_value;
    arrays = by d.arrays;
  })
    where
      by : NoneBuilt xs number m pairs ⊎ ArraysBuilt xs uses site number m pairs d.keys d.values → NoneBuilt ys number m pairs ⊎ ArraysBuilt ys more site number m pairs d.keys d.values
      by (inl e) = inl (record { empty = e.empty; head_is = stays xs ys number _ b e.head_is })
      by (inr a) = inr (record {
        one = a.one;
        two = a.two;
        index = a.index;
        head_is = stays xs ys number _ b a.head_is;
        first_is = stays xs ys a.one _ b a.first_is;
        second_is = stays xs ys a.two _ b a.second_is;
        first_use = stays uses more a.one _ u a.first_use;
        second_use = stays uses more a.two _ u a.second_use;
        indexed = a.indexed;
      })

  -- Each static has a use, and these come first. What stays is what it is, and strings and tuples do. Each site that is made has its list
  -- or dict.
  pub record Built (begin : List Use) (statics : List CStatic) (made : List (ℕ × ℕ)) (uses : List Use) : Type 0 where
    pub long : length uses ≡ length statics
    pub front : Begins begin uses
    pub staying : (s : ℕ) (static : CStatic) (block : Block) → slice_get statics s ≡ Some static → slice_get uses s ≡ Some (Stays block) → block_of p around.layout static ≡ block
    pub settled : (s : ℕ) (static : CStatic) → slice_get statics s ≡ Some static → is_settled around.layout static.kind ≡ true → slice_get uses s ≡ Some (Stays (block_of p around.layout static))
    pub each : (site number : ℕ) → prebuilt_at made site ≡ Some number → SiteBuilt statics made uses site number

  abbrev staying_use : CStatic → Use
  staying_use static = Stays (block_of p around.layout static)

  same_block : {a b : Block} → Stays a ≡ Stays b → a ≡ b
  same_block h = cc

  -- further statics stay
  pub built_more : {begin uses : List Use} {xs ys : List CStatic} {made : List (ℕ × ℕ)} (b : Begins xs ys) → Built begin xs made uses → Built begin ys made (uses ++ map staying_use b.0)
  built_more {begin = begin} {uses = uses} {xs = xs} {made = made} b old = subst (λ zs. Built begin zs made (uses ++ map staying_use b.0)) b.1 (record {
    long = length-append uses (map staying_use b.0) ∙ (let z = old.long in let y = map_long staying_use b.0 in let x = length-append xs b.0 in omega (arith, x, y, z));
    front = further begin uses (uses ++ map staying_use b.0) old.front (map staying_use b.0, refl);
    staying = λ s static block h u. stay_by s static block (split xs b.0 s static h) u;
    settled = λ s static h e. settle_by s static e (split xs b.0 s static h);
    each = λ site number h. site_later (b.0, refl) (λ site number k. k) (map staying_use b.0, refl) (old.each site number h);
  })
    where
      stay_by : (s : ℕ) (static : CStatic) (block : Block) → Split xs b.0 s static → slice_get (uses ++ map staying_use b.0) s ≡ Some (Stays block) → block_of p around.layout static ≡ block
      stay_by s static block (Left lt h) u = old.staying s static block h (sym (get_first uses (map staying_use b.0) s (let z = old.long in omega (arith, z, lt))) ∙ u)
      stay_by s static block (Right i at h) u = same_block (same_some (sym (get_map staying_use b.0 i static h) ∙ sym (get_behind uses (map staying_use b.0) s i (let z = old.long in omega (arith, z, at))) ∙ u))

      settle_by : (s : ℕ) (static : CStatic) → is_settled around.layout static.kind ≡ true → Split xs b.0 s static → slice_get (uses ++ map staying_use b.0) s ≡ Some (staying_use static)
      settle_by s static e (Left lt h) = get_first uses (map staying_use b.0) s (let z = old.long in omega (arith, z, lt)) ∙ old.settled s static h e
      settle_by s static e (Right i at h) = get_behind uses (map staying_use b.0) s i (let z = old.long in omega (arith, z, at)) ∙ get_map staying_use b.0 i static h

  -- a use of what may change
  abbrev pub Changes : Use → Type 0
  Changes u = (block : Block) → u ≡ Stays block → ⊥

  -- one more static, which is no string or tuple
  pub built_one : {begin uses : List Use} {xs : List CStatic} {made : List (ℕ × ℕ)} (static : CStatic) (u : Use) → is_settled around.layout static.kind ≡ false → Changes u → Built begin xs made uses → Built begin (xs ++ static ∷ []) made (uses ++ u ∷ [])
  built_one {begin = begin} {uses = uses} {xs = xs} {made = made} new u apart change old = record {
    long = length-append uses (u ∷ []) ∙ (let z = old.long in let x = length-append xs (new ∷ []) in omega (arith, x, z));
    front = further begin uses (uses ++ u ∷ []) old.front (u ∷ [], refl);
    staying = λ s static block h e. stay_by s static block (split xs (new ∷ []) s static h) e;
    settled = λ s static h e. settle_by s static e (split xs (new ∷ []) s static h);
    each = λ site number h. site_later (new ∷ [], refl) (λ site number k. k) (u ∷ [], refl) (old.each site number h);
  }
    where
      stay_by : (s : ℕ) (static : CStatic) (block : Block) → Split xs (new ∷ []) s static → slice_get (uses ++ u ∷ []) s ≡ Some (Stays block) → block_of p around.layout static ≡ block
      stay_by s static block (Left lt h) e = old.staying s static block h (sym (get_first uses (u ∷ []) s (let z = old.long in omega (arith, z, lt))) ∙ e)
      stay_by s static block (Right i at h) e = (let it = last_only new i static h in absurd (change block (last_only u 0 (Stays block) (sym (get_behind uses (u ∷ []) s 0 (let z = old.long in let y = it.0 in omega (arith, z, at, y))) ∙ e)).1))

      settle_by : (s : ℕ) (static : CStatic) → is_settled around.layout static.kind ≡ true → Split xs (new ∷ []) s static → slice_get (uses ++ u ∷ []) s ≡ Some (staying_use static)
      settle_by s static e (Left lt h) = get_first uses (u ∷ []) s (let z = old.long in omega (arith, z, lt)) ∙ old.settled s static h e
      settle_by s static e (Right i at h) = absurd (not_true (sym apart ∙ ap (λ (c : CStatic). is_settled around.layout c.kind) (last_only new i static h).1 ∙ e))

  -- one more site that is made
  pub built_site : {begin uses : List Use} {xs : List CStatic} {made : List (ℕ × ℕ)} (site number : ℕ) → SiteBuilt xs (made ++ (site, number) ∷ []) uses site number → Built begin xs made uses → Built begin xs (made ++ (site, number) ∷ []) uses
  built_site {begin = begin} {uses = uses} {xs = xs} {made = made} site number new old = record {
    long = old.long;
    front = old.front;
    staying = old.staying;
    settled = old.settled;
    each = λ other k h. by other k (only_made made site number other k h);
  }
    where
      by : (other k : ℕ) → (prebuilt_at made other ≡ Some k) ⊎ ((site ≡ other) × (number ≡ k)) → SiteBuilt xs (made ++ (site, number) ∷ []) uses other k
      by other k (inl h) = site_later (itself xs) (one_kept made (site, number)) (itself uses) (old.each other k h)
      by other k (inr h) = subst (λ o. SiteBuilt xs (made ++ (site, number) ∷ []) uses o k) h.0 (subst (λ n. SiteBuilt xs (made ++ (site, number) ∷ []) uses site n) h.1 new)
