-- Each list and dict of a module is made in the end.
use Rattle.std.proofs.Common.{◌≡◌, ◌<◌, ◌≤◌, ◌⊎◌, inl, inr, ℕ, zero, suc, ◌+◌, ◌==◌, ◌&&◌, ◌^◌, Bool, true, false, List, ◌∷◌, ◌++◌, length, map, slice_get, Option, Some, None, refl, sym, ap, ◌∙◌, subst, arith, []}
use Rattle.std.specs.Prelude.{if◌then◌else◌, is_some, min}
use Rattle.std.proofs.lemmas.Bool.Decides.{eqb_tells}
use Rattle.std.proofs.lemmas.List.{append-nil}
use Rattle.ll_code.specs.declared.program.LlType.{LlType}
use Rattle.ll_code.specs.declared.program.LlType.TheVariants as type
use Rattle.rpy_tree.specs.declared.program.Const.{Const, fold-roll-Const, map-Const, ind-Const, roll-Const}
use Rattle.rpy_tree.specs.declared.program.Const.TheOpen.{Const-F}
use Rattle.rpy_tree.specs.declared.program.Site.{Site}
use Rattle.rtyper_layout.specs.declared.dicts.Mapping.{Mapping}
use Rattle.rtyper_layout.specs.Dicts.{stored_key, stored_value}
use Rattle.rtyper_layout.specs.Layout.{mapping_at}
use Rattle.rtyper_layout.specs.Types.{word}
use Rattle.rtyper_data.specs.declared.found.Found.{Found}
use Rattle.rtyper_data.specs.Finding.{prebuilt_at, same_type}
use Rattle.rtyper_data.specs.Seen.{Around}
use Rattle.rtyper_op.specs.Constants.{constant_of}
use Rattle.rtyper_op.specs.Mapped.{array_of, dict_cells, entries_from, entry_of, first_array, mapped, mapped_by, second_array, stored, with_entry}
use Rattle.rtyper_op.specs.Prebuilt.{all_ready, are_true, array_cells, contents, contents_if, is_made, is_ready, item_type, listed, made, prebuilt, ready_step, round, rounds, site_by, site_made, sites_from, type_of_site, values_from}
use Rattle.growth_laws.specs.Growing.{Begins}
use Rattle.growth_laws.proofs.Fronts.{further, whole}
use Rattle.layout_laws.proofs.Places.{is_same, no_some, not_true, same_some, get_within}
use Rattle.start_laws.specs.Made.{AreNested, IsContents, SitesAreMade, joined, sites_in, sites_step}
use Rattle.start_laws.proofs.Building.{get_behind, get_first, one_made}
use Rattle.start_laws.proofs.Entries.{Entry}
use Rattle.start_laws.proofs.Serving.{Kept, constant_keeps, if_keeps}

-- ---- what is made stays made

abbrev Stay : Found → Found → Type 0
Stay a b = Kept a.prebuilt b.prebuilt

pub in_front : (xs more : List (ℕ × ℕ)) → Kept xs (xs ++ more)
in_front [] more site number h = absurd (no_some h)
in_front (p ∷ xs) more site number h = by (in_front xs more site number) (p.0 == site) h
  where
    by : (prebuilt_at xs site ≡ Some number → prebuilt_at (xs ++ more) site ≡ Some number) → (b : Bool) → (if b then Some p.1 else prebuilt_at xs site) ≡ Some number → (if b then Some p.1 else prebuilt_at (xs ++ more) site) ≡ Some number
    by rest true h = h
    by rest false h = rest h

-- what is added stands behind
abbrev Longer : Found → Found → Type 0
Longer a b = Begins a.prebuilt b.prebuilt

longer_stays : (a b : Found) → Longer a b → Stay a b
longer_stays a b h = subst (Kept a.prebuilt) h.1 (in_front a.prebuilt h.0)

some_is : {A : Type 0} (o : Option A) → is_some o ≡ true → (a : A) × (o ≡ Some a)
some_is None h = absurd (not_true h)
some_is (Some a) h = (a, refl)

made_stays : (a b : Found) → Stay a b → (site : ℕ) → is_made a site ≡ true → is_made b site ≡ true
made_stays a b h site m = (let it = some_is (prebuilt_at a.prebuilt site) m in ap is_some (h site it.0 it.1))

-- ---- what is made keeps the others

stored_keeps : (around : Around) (c : Const) (kind item : LlType) (found : Found) → (stored around c kind item found).1.prebuilt ≡ found.prebuilt
unfolding stored
stored_keeps around c kind item found = if_keeps _ _ (same_type item kind) (constant_keeps around c kind found) (constant_keeps around c kind found)

entry_keeps : (around : Around) (m : Mapping) (pair : Const × Const) (found : Found) → (entry_of around m pair found).1.prebuilt ≡ found.prebuilt
unfolding entry_of
entry_keeps around m pair found = stored_keeps around pair.1 m.value (stored_value m) (stored around pair.0 m.key (stored_key m) found).1 ∙ stored_keeps around pair.0 m.key (stored_key m) found

entries_keep : (around : Around) (m : Mapping) (pairs : List (Const × Const)) (done : List Entry × Found) → (entries_from around m pairs done).1.prebuilt ≡ done.1.prebuilt
entries_keep around m [] done = refl
entries_keep around m (p ∷ pairs) done = entries_keep around m pairs (with_entry (entry_of around m p done.1).0 done.0, (entry_of around m p done.1).1) ∙ entry_keeps around m p done.1

cells_keep : (m : Mapping) (entries : List Entry) (found : Found) → (dict_cells m entries found).1.prebuilt ≡ found.prebuilt
unfolding dict_cells first_array second_array array_of
cells_keep m [] found = refl
cells_keep m (e ∷ entries) found = refl

values_keep : (around : Around) (item : LlType) (pairs : List (Const × Const)) (found : Found) → (values_from around item pairs found).1.prebuilt ≡ found.prebuilt
values_keep around item [] found = refl
values_keep around item (p ∷ pairs) found = values_keep around item pairs (constant_of around p.1 item found).1 ∙ constant_keeps around p.1 item found

-- one more site is made
record Adds (site : ℕ) (found after : Found) : Type 0 where
  number : ℕ
  is : after.prebuilt ≡ found.prebuilt ++ (site, number) ∷ []

adds_by : (site number : ℕ) (found after : Found) (between : List (ℕ × ℕ)) → between ≡ found.prebuilt → after.prebuilt ≡ between ++ (site, number) ∷ [] → Adds site found after
adds_by site number found after between same is = record { number = number; is = is ∙ ap (λ ps. ps ++ (site, number) ∷ []) same }

adds_made : (site : ℕ) (found after : Found) → Adds site found after → is_made found site ≡ false → is_made after site ≡ true
adds_made site found after a none = ap is_some (ap (λ ps. prebuilt_at ps site) a.is ∙ one_made found.prebuilt site a.number (nothing (prebuilt_at found.prebuilt site) none))
  where
    nothing : {A : Type 0} (o : Option A) → is_some o ≡ false → o ≡ None
    nothing None h = refl
    nothing (Some a) h = absurd (not_true (sym h))

module _ (around : Around) where
  listed_adds : (site n : ℕ) (pairs : List (Const × Const)) (found : Found) → Adds site found (listed around site n pairs found)
  unfolding listed array_cells
  listed_adds site n pairs found = adds_by site _ found (listed around site n pairs found) (values_from around (item_type around (word (n + 1))) pairs found).1.prebuilt (values_keep around (item_type around (word (n + 1))) pairs found) refl

  mapped_adds : (site n : ℕ) (pairs : List (Const × Const)) (m : Mapping) (found : Found) → Adds site found (mapped_by around site n pairs (Some m) found)
  mapped_adds site n pairs m found =
      let made = entries_from around m pairs ([], found) in
      adds_by site _ found (mapped_by around site n pairs (Some m) found) (dict_cells m made.0 made.1).1.prebuilt (cells_keep m made.0 made.1 ∙ entries_keep around m pairs ([], found)) refl

  made_so : (dict : Bool) (site n : ℕ) (pairs : List (Const × Const)) (found : Found) → (dict ≡ true → (m : Mapping) × (mapping_at around.layout.mappings n ≡ Some m)) → Adds site found (made around dict site n pairs found)
  unfolding mapped
  made_so false site n pairs found has = listed_adds site n pairs found
  made_so true site n pairs found has = (let m = has refl in subst (λ o. Adds site found (mapped_by around site n pairs o found)) (sym m.1) (mapped_adds site n pairs m.0 found))

-- ---- readiness stays

joined_at : (xss : List (List ℕ)) (i j x : ℕ) (xs : List ℕ) → slice_get xss i ≡ Some xs → slice_get xs j ≡ Some x → (k : ℕ) × (slice_get (joined xss) k ≡ Some x)
joined_at [] i j x xs h k = absurd (no_some h)
joined_at (ys ∷ xss) zero j x xs h k = (let q : ys ≡ xs = same_some h in (j, get_first ys (joined xss) j (let z = get_within ys j x (ap (λ zs. slice_get zs j) q ∙ k) in z) ∙ ap (λ zs. slice_get zs j) q ∙ k))
joined_at (ys ∷ xss) (suc i) j x xs h k = (let r = joined_at xss i j x xs h k in (length ys + r.0, get_behind ys (joined xss) (length ys + r.0) r.0 refl ∙ r.1))

-- a constant is ready where all sites in it are made
abbrev ReadyIf : Found → Bool → List ℕ → Type 0
ReadyIf found ready inside = ((j x : ℕ) → slice_get inside j ≡ Some x → is_made found x ≡ true) → ready ≡ true

module _ (found : Found) where
  abbrev OneReady : Const → Type 0
  OneReady c = ReadyIf found (is_ready found c) (sites_in c)

  parts_ready : (ys : List ((c : Const) × OneReady c)) → ReadyIf found (are_true (map (is_ready found) (map (λ q. q.0) ys))) (joined (map sites_in (map (λ q. q.0) ys)))
  parts_ready [] all = refl
  parts_ready (y ∷ ys) all =
      both (y.1 (λ j x h. all j x (get_first (sites_in y.0) (joined (map sites_in (map (λ q. q.0) ys))) j (get_within (sites_in y.0) j x h) ∙ h)))
      (parts_ready ys (λ j x h. all (length (sites_in y.0) + j) x (get_behind (sites_in y.0) (joined (map sites_in (map (λ q. q.0) ys))) (length (sites_in y.0) + j) j refl ∙ h)))
    where
      both : {a b : Bool} → a ≡ true → b ≡ true → (a && b) ≡ true
      both {b = b} e f = ap (λ x. x && b) e ∙ f

  one_ready : (y : Const-F ((c : Const) × OneReady c))
      → ReadyIf found (ready_step found (map-Const Const Bool (is_ready found) (map-Const ((c : Const) × OneReady c) Const (λ q. q.0) y))) (sites_step (map-Const Const (List ℕ) sites_in (map-Const ((c : Const) × OneReady c) Const (λ q. q.0) y)))
  one_ready (Const-F.Word z) all = refl
  one_ready (Const-F.Bool b) all = refl
  one_ready (Const-F.Str bytes) all = refl
  one_ready Const-F.None all = refl
  one_ready (Const-F.Function f) all = refl
  one_ready (Const-F.Tuple ys) all = parts_ready ys all
  one_ready (Const-F.List site) all = all 0 site refl
  one_ready (Const-F.Dict site) all = all 0 site refl

  pub constant_ready : (c : Const) → OneReady c
  constant_ready = ind-Const OneReady
      (λ x y is. subst (λ b. ReadyIf found b (sites_in (roll-Const x))) (sym (fold-roll-Const Bool (ready_step found) x))
      (subst (λ l. ReadyIf found (ready_step found (map-Const Const Bool (is_ready found) x)) l) (sym (fold-roll-Const (List ℕ) sites_step x))
      (subst (λ z. ReadyIf found (ready_step found (map-Const Const Bool (is_ready found) z)) (sites_step (map-Const Const (List ℕ) sites_in z))) is (one_ready y))))

  pairs_ready : (pairs : List (Const × Const)) → ((i j x : ℕ) (pair : Const × Const) → slice_get pairs i ≡ Some pair → slice_get (sites_in pair.1) j ≡ Some x → is_made found x ≡ true) → all_ready found pairs ≡ true
  pairs_ready [] all = refl
  pairs_ready (q ∷ pairs) all = both (constant_ready q.1 (λ j x h. all 0 j x q refl h)) (pairs_ready pairs (λ i j x pair h k. all (suc i) j x pair h k))
    where
      both : {a b : Bool} → a ≡ true → b ≡ true → (a && b) ≡ true
      both {b = b} e f = ap (λ x. x && b) e ∙ f

module _ (around : Around) (sites : List Site) (same : List ℕ) (depth : ℕ → ℕ) (nested : AreNested around sites same depth) where
  abbrev step : ℕ → Found → Found
  step site found = site_made around sites same site found

  abbrev some_sites : ℕ → ℕ → Found → Found
  some_sites turns site found = sites_from around sites same turns site found

  longer_same : (a b : Found) → b.prebuilt ≡ a.prebuilt → Longer a b
  longer_same a b e = ([], append-nil a.prebuilt ∙ sym e)

  then_longer : (a b c : Found) → Longer a b → Longer b c → Longer a c
  then_longer a b c g h = further a.prebuilt b.prebuilt c.prebuilt g h

  adds_longer : (site : ℕ) (a b : Found) → Adds site a b → Longer a b
  adds_longer site a b h = ((site, h.number) ∷ [], sym h.is)

  made_longer : (dict : Bool) (site n : ℕ) (pairs : List (Const × Const)) (found : Found) → Longer found (made around dict site n pairs found)
  unfolding mapped
  made_longer false site n pairs found = adds_longer site found (listed around site n pairs found) (listed_adds around site n pairs found)
  made_longer true site n pairs found = by (mapping_at around.layout.mappings n)
    where
      by : (o : Option Mapping) → Longer found (mapped_by around site n pairs o found)
      by None = longer_same found found refl
      by (Some m) = adds_longer site found (mapped_by around site n pairs (Some m) found) (mapped_adds around site n pairs m found)

  contents_longer : (dict : Bool) (site n : ℕ) (pairs : List (Const × Const)) (found : Found) → Longer found (contents around dict site n pairs found)
  unfolding contents
  contents_longer dict site n pairs found = by (all_ready found pairs)
    where
      by : (b : Bool) → Longer found (if b then made around dict site n pairs found else found)
      by true = made_longer dict site n pairs found
      by false = longer_same found found refl

  contents_if_longer : (dict : Bool) (site : ℕ) (pairs : Option (List (Const × Const))) (t : LlType) (found : Found) → Longer found (contents_if around dict site pairs t found)
  contents_if_longer dict site (Some pairs) (type.Ptr n) found = contents_longer dict site n pairs found
  contents_if_longer dict site _ _ found = longer_same found found refl

  site_by_longer : (site : ℕ) (s : Option Site) (found : Found) → Longer found (site_by around sites same site s found)
  site_by_longer site None found = longer_same found found refl
  site_by_longer site (Some s) found = contents_if_longer s.dict site s.prebuilt (type_of_site around sites same site s.dict) found

  step_longer : (site : ℕ) (found : Found) → Longer found (step site found)
  unfolding site_made
  step_longer site found = by (is_made found site)
    where
      by : (b : Bool) → Longer found (if b then found else site_by around sites same site (slice_get sites site) found)
      by true = longer_same found found refl
      by false = site_by_longer site (slice_get sites site) found

  sites_longer : (turns site : ℕ) (found : Found) → Longer found (some_sites turns site found)
  sites_longer zero site found = longer_same found found refl
  sites_longer (suc turns) site found = then_longer found (step site found) (some_sites turns (min (site + 1) 4294967295) (step site found)) (step_longer site found) (sites_longer turns (min (site + 1) 4294967295) (step site found))

  step_stays : (site : ℕ) (found : Found) → Stay found (step site found)
  step_stays site found = longer_stays found (step site found) (step_longer site found)

  sites_stay : (turns site : ℕ) (found : Found) → Stay found (some_sites turns site found)
  sites_stay turns site found = longer_stays found (some_sites turns site found) (sites_longer turns site found)

  -- where no more are made they are the same
  nothing_new : (found : Found) → length (round around sites same found).prebuilt ≡ length found.prebuilt → found.prebuilt ≡ (round around sites same found).prebuilt
  unfolding round
  nothing_new found e = whole found.prebuilt (round around sites same found).prebuilt (sites_longer (length sites) 0 found) e

  -- a site whose parts are made
  abbrev Ready : ℕ → List (Const × Const) → Found → Type 0
  Ready site pairs found = (i j x : ℕ) (pair : Const × Const) → slice_get pairs i ≡ Some pair → slice_get (sites_in pair.1) j ≡ Some x → is_made found x ≡ true

  contents_made : (site n : ℕ) (pairs : List (Const × Const)) (dict : Bool) (found : Found) → (dict ≡ true → (m : Mapping) × (mapping_at around.layout.mappings n ≡ Some m)) → all_ready found pairs ≡ true → is_made found site ≡ false
      → is_made (contents around dict site n pairs found) site ≡ true
  unfolding contents
  contents_made site n pairs dict found has ready none =
      ap (λ b. is_made (if b then made around dict site n pairs found else found) site) ready ∙ adds_made site found (made around dict site n pairs found) (made_so around dict site n pairs found has) none

  step_makes : (site : ℕ) (pairs : List (Const × Const)) (found : Found) → IsContents around sites same site pairs → all_ready found pairs ≡ true → is_made (step site found) site ≡ true
  unfolding site_made
  step_makes site pairs found it ready = by (is_made found site) refl
    where
      by : (b : Bool) → is_made found site ≡ b → is_made (if b then found else site_by around sites same site (slice_get sites site) found) site ≡ true
      by true e = e
      by false e =
          ap (λ o. is_made (site_by around sites same site o found) site) it.is ∙ ap (λ ps. is_made (contents_if around it.of.dict site ps (type_of_site around sites same site it.of.dict) found) site) it.filled
          ∙ ap (λ t. is_made (contents_if around it.of.dict site (Some pairs) t found) site) it.typed ∙ contents_made site it.struct pairs it.of.dict found it.mapped ready e

  sites_make : (turns start site : ℕ) (pairs : List (Const × Const)) (found : Found) → IsContents around sites same site pairs → Ready site pairs found → start ≤ site → site < start + turns → site < 2 ^ 32 → is_made (some_sites turns start found) site ≡ true
  sites_make zero start site pairs found it ready low high few = absurd (omega (arith, low, high))
  sites_make (suc turns) start site pairs found it ready low high few = by (eqb_tells start site) (λ lt. sites_make turns (min (start + 1) 4294967295) site pairs (step start found) it (λ i j x pair h k. made_stays found (step start found) (step_stays start found) x (ready i j x pair h k))
      (omega (arith, lt, few)) (omega (arith, high, lt, few)) few)
    where
      by : (((start == site) ≡ true) × (start ≡ site)) ⊎ (((start == site) ≡ false) × (start ≡ site → ⊥)) → (start < site → is_made (some_sites turns (min (start + 1) 4294967295) (step start found)) site ≡ true) → is_made (some_sites turns (min (start + 1) 4294967295) (step start found)) site ≡ true
      by (inl t) rest =
          made_stays (step start found) (some_sites turns (min (start + 1) 4294967295) (step start found)) (sites_stay turns (min (start + 1) 4294967295) (step start found)) site
          (ap (λ s. is_made (step s found) site) t.1 ∙ step_makes site pairs found it (pairs_ready found pairs ready))
      by (inr t) rest = rest (let z = t.1 in omega (arith, low, z))

  abbrev one_round : Found → Found
  one_round found = round around sites same found

  round_makes : (site : ℕ) (pairs : List (Const × Const)) (found : Found) → IsContents around sites same site pairs → Ready site pairs found → is_made (one_round found) site ≡ true
  unfolding round
  round_makes site pairs found it ready =
      let within = get_within sites site it.of it.is in
      let few = nested.few in
      sites_make (length sites) 0 site pairs found it ready (omega arith) (omega (arith, within)) (omega (arith, within, few))

  -- all that are less deep than this are made
  abbrev Until : ℕ → Found → Type 0
  Until bound found = (site : ℕ) (pairs : List (Const × Const)) → IsContents around sites same site pairs → depth site < bound → is_made found site ≡ true

  round_until : (bound : ℕ) (found : Found) → Until bound found → Until (suc bound) (one_round found)
  round_until bound found all site pairs it lt =
      round_makes site pairs found it (λ i j x pair h k. let inner = nested.inside site pairs i j x pair it h k in let less = inner.0 in all x inner.1.0 inner.1.1 (omega (arith, lt, less)))

  all_until : (bound : ℕ) (found : Found) → ((k : ℕ) → Until k found → Until (suc k) found) → Until bound found
  all_until zero found more = λ site pairs it lt. absurd (omega (arith, lt))
  all_until (suc bound) found more = more bound (all_until bound found more)

  if_until : (bound : ℕ) (a b : Found) (t : Bool) → (t ≡ true → Until bound a) → (t ≡ false → Until bound b) → Until bound (if t then a else b)
  if_until bound a b true f g = f refl
  if_until bound a b false f g = g refl

  -- a round either makes one more deep, or nothing; where it makes nothing, all are made
  rounds_until : (turns bound : ℕ) (found : Found) → Until bound found → Until (bound + turns) (rounds around sites same turns found)
  rounds_until zero bound found all = λ site pairs it lt. all site pairs it (omega (arith, lt))
  rounds_until (suc turns) bound found all =
      if_until (bound + suc turns) (one_round found) (rounds around sites same turns (one_round found)) (length (one_round found).prebuilt == length found.prebuilt)
      (λ e. all_until (bound + suc turns) (one_round found) (λ k until site pairs it lt.
      made_back (is_same (length (one_round found).prebuilt) (length found.prebuilt) e) k until site pairs it lt))
      (λ e site pairs it lt. rounds_until turns (suc bound) (one_round found) (round_until bound found all) site pairs it (omega (arith, lt)))
    where
      -- what a round that makes nothing has made was made before
      made_back : length (one_round found).prebuilt ≡ length found.prebuilt → (k : ℕ) → Until k (one_round found) → Until (suc k) (one_round found)
      made_back same_length k until site pairs it lt =
          round_makes site pairs found it (λ i j x pair h l.
          let inner = nested.inside site pairs i j x pair it h l in
          let less = inner.0 in
          let now : is_made (one_round found) x ≡ true = until x inner.1.0 inner.1.1 (omega (arith, lt, less)) in
          ap (λ ps. is_some (prebuilt_at ps x)) (nothing_new found same_length) ∙ now)

  pub all_made : (found : Found) (site : ℕ) (pairs : List (Const × Const)) → IsContents around sites same site pairs → is_made (prebuilt around sites same found) site ≡ true
  unfolding prebuilt
  all_made found site pairs it = (let less = nested.less site pairs it in rounds_until (length sites) 0 found (λ site pairs it lt. absurd (omega (arith, lt))) site pairs it (omega (arith, less)))

pub sites_are_made : SitesAreMade
sites_are_made around sites same depth found nested site pairs it = all_made around sites same depth nested found site pairs it
