-- What the rounds of the code make is what the rules make with the values that stand in the end.
use Rattle.std.proofs.Common.{◌≡◌, ℕ, ◌+◌, ◌≤◌, zero, suc, List, [], ◌∷◌, ◌++◌, append_assoc, length, length-append, map, Bool, true, false, cond, Option, Some, None, sym, ap, ◌∙◌, refl, arith, subst}
use Rattle.std.specs.Prelude.{slice_get, slice_set, nat_lt}
use Rattle.std.specs.List.{AllByRecursion}
use Rattle.rpy_tree.specs.declared.program.Const.{Const}
use Rattle.names_bound.specs.declared.declare.ConstantAt.{ConstantAt}
use Rattle.names_bound.specs.declared.stand.Stand.{Stand}
use Rattle.names_bound.specs.declared.stand.Stand.TheVariants as stand
use Rattle.names_found.specs.Finder.{add_sites, site_count}
use Rattle.names_found.specs.Part.{is_dict}
use Rattle.names_found.specs.declared.part.Part.{Part}
use Rattle.names_found.specs.declared.step.SiteAt.{SiteAt}
use Rattle.names_found.specs.declared.unit.Found.{Found}
use Rattle.names_rules.specs.Bindings.{Binding, Counts, count}
use Rattle.names_rules.specs.Events.{Names, act_of}
use Rattle.names_rules.specs.Locals.{locals}
use Rattle.names_rules.specs.Members as member
use Rattle.names_rules.specs.Members.{Value, Body, Formal, What, Placed}
use Rattle.names_rules.specs.Order.{Item, Items, Name, Attr, block}
use Rattle.names_rules.specs.Scopes as scope
use Rattle.names_rules.proofs.Runs.{run}
use Rattle.names_value.specs.Constants as code
use Rattle.names_value.specs.Machine.{constant_at, stand_value, word_of}
use Rattle.names_value.specs.declared.constants.Values.{Values as Code}
use Rattle.names_constants.specs.Constants as rule
use Rattle.names_constants.specs.Constants.{Constant}
use Rattle.names_constants.specs.Stands.{name_part, bound_part, attr_part}
use Rattle.names_constants.specs.Value.{Piece, Kept, from_node, named, value, at_node}
use Rattle.names_constants.specs.Visit as visit
use Rattle.names_constants.proofs.Block.{block_seen}
use Rattle.names_constants.proofs.Checked.{settled_made, unsettled_made}
use Rattle.names_constants.proofs.Order.{Below, AllBelow, Values, below_path}
use Rattle.names_constants.proofs.Rounds.{AreConstants, settled, values_are, fixed, nones, none_yet_is, none_sound}
use Rattle.names_constants.proofs.Rounds as rounds
use Rattle.names_constants.proofs.Sight as sight
use Rattle.names_constants.proofs.Sight.{Sight}
use Rattle.names_whole.specs.Sites.{what_made, made_from}
use Rattle.names_whole.proofs.Held.{Made, Among, among_first, among_rest, among_both, among_trans, among_itself, Rising, rising_append, Covers, covers_first, covers_last, covers_both, covers_itself}
use Rattle.names_whole.proofs.Made.{more_by_values, made_rises, all_made}

-- ---- lists

get_mapped : {A B : Type 0} (f : A → B) (xs : List A) (n : ℕ) (x : A) → slice_get xs n ≡ Some x → slice_get (map f xs) n ≡ Some (f x)
get_mapped f [] n x h = absurd cc
get_mapped f (y ∷ xs) zero x h = ap (mapped f) h where
  mapped : {A B : Type 0} (f : A → B) → Option A → Option B
  mapped f None = None
  mapped f (Some a) = Some (f a)
get_mapped f (y ∷ xs) (suc n) x h = get_mapped f xs n x h

get_end : {A : Type 0} (xs ys : List A) (x : A) → slice_get (xs ++ x ∷ ys) (length xs) ≡ Some x
get_end [] ys x = refl
get_end (y ∷ xs) ys x = get_end xs ys x

set_below : (vs ws : Values) (n : ℕ) (d : Const) → AllBelow vs ws → slice_get ws n ≡ Some (Some d) → AllBelow (slice_set vs n (Some d)) ws
set_below [] [] zero d h e = absurd cc
set_below [] [] (suc n) d h e = absurd cc
set_below [] (w ∷ ws) n d h e = absurd h
set_below (v ∷ vs) [] n d h e = absurd h
set_below (v ∷ vs) (w ∷ ws) zero d h e = (inner e, h.1) where
  or_none : Option (Option Const) → Option Const
  or_none None = None
  or_none (Some o) = o

  inner : Some w ≡ Some (Some d) → w ≡ Some d
  inner e = ap or_none e
set_below (v ∷ vs) (w ∷ ws) (suc n) d h e = (h.0, set_below vs ws n d h.1 e)

all_itself : (vs : Values) → AllBelow vs vs
all_itself [] = tt
all_itself (v ∷ vs) = (below_path v v refl, all_itself vs)

-- ---- the sites do not rest on the values

none_at : (n k : ℕ) → constant_at (nones n) k ≡ None
none_at zero zero = refl
none_at zero (suc k) = refl
none_at (suc n) zero = refl
none_at (suc n) (suc k) = none_at n k

at_none : (n k : ℕ) → constant_at [] k ≡ constant_at (nones n) k
at_none n k = none_at 0 k ∙ sym (none_at n k)

stand_none : (n : ℕ) (s : Stand) → stand_value [] s ≡ stand_value (nones n) s
stand_none n (stand.Constant k) = at_none n k
stand_none n other = refl

word_none : (n : ℕ) (s : Stand) → word_of [] s ≡ word_of (nones n) s
word_none n (stand.Constant k) = ap Rattle.names_value.specs.Machine.word_const (at_none n k)
word_none n other = refl

module _ (np bp : List ℕ → Part) (dotted : Part → List ℕ → Part) (n : ℕ) where
  named_none : (p : Part) → named np bp dotted true [] p ≡ named np bp dotted true (nones n) p
  named_none p = ap (λ o. cond p.late None o) (stand_none n p.stand)

  value_none : (i : Item) (site : ℕ) (ps : List Piece) → value np bp dotted true [] i site ps ≡ value np bp dotted true (nones n) i site ps
  value_none (Name name) site ps = named_none (np name)
  value_none (Attr name) site [] = refl
  value_none (Attr name) site (a ∷ []) = named_none (dotted a.part name)
  value_none (Attr name) site (a ∷ b ∷ ps) = refl
  value_none i site ps = refl

  at_none_same : at_node np bp dotted true [] ≡ at_node np bp dotted true (nones n)
  at_none_same = λ j i ps k. (record { part = (at_node np bp dotted true [] i ps k).0.part; node = k.node; value = value_none i (length k.sites) ps j }, (at_node np bp dotted true [] i ps k).1)

-- ---- the sites only grow

added_sites : (n : ℕ) (s : SiteAt) (ss : List SiteAt) → length ss ≤ length (add_sites n s ss)
added_sites zero s ss = omega arith
added_sites (suc n) s ss = omega (arith, added_sites n s (ss ++ s ∷ []), length-append ss (s ∷ []))

module _ (np bp : List ℕ → Part) (dotted : Part → List ℕ → Part) (whole : Bool) (V : Values) where
  abbrev one : Item → Sight → Sight
  one = sight.one [] np bp dotted whole V

  one_grows : (i : Item) (s : Sight) → length s.kept.sites ≤ length (one i s).kept.sites
  one_grows i s = added_sites (site_count (act_of [] i) (sight.called_at [] np bp dotted whole V i s.parts)) (record { node = s.kept.node; dict = is_dict (act_of [] i) }) s.kept.sites

  run_grows : (is : Items) (s : Sight) → length s.kept.sites ≤ length (run Sight one is s).kept.sites
  run_grows [] s = omega arith
  run_grows (i ∷ is) s = omega (arith, one_grows i s, run_grows is (one i s))

  body_grows : (b : Body) (ss : List SiteAt) → length ss ≤ length (visit.block Piece Kept (at_node np bp dotted whole V) b.of (from_node b.first ss)).sites
  body_grows b ss = subst (λ (s : Sight). length ss ≤ length s.kept.sites) (block_seen [] np bp dotted whole V b.of (record { parts = []; slots = []; kept = from_node b.first ss })) (run_grows (block b.of) (record { parts = []; slots = []; kept = from_node b.first ss }))

module _ (bs cs : List Binding) (bases : List (Option ℕ)) where
  nothing_dotted : (file place : ℕ) (p : Part) (name : List ℕ) → p.stand ≡ stand.Nothing → (attr_part bs cs bases file place [] p name).stand ≡ stand.Nothing
  nothing_dotted file place p name e = ap (λ s. scope.member bs cs bases s name) e

  abbrev np : ℕ → ℕ → List ℕ → Part
  np file place = name_part bs cs bases file place []

  abbrev bp : ℕ → ℕ → List ℕ → Part
  bp file place = bound_part bs cs bases file place []

  abbrev dotted : ℕ → ℕ → Part → List ℕ → Part
  dotted file place = attr_part bs cs bases file place []

  -- ---- values

  module _ (V W : Values) (grows : AllBelow V W) where
    value_among : (file place : ℕ) (v : Value) (ss : List SiteAt) → Among (rule.valued bs cs bases V file place v ss).1.made (rule.valued bs cs bases W file place v ss).1.made
    value_among file place v ss = more_by_values (np file place) (bp file place) (dotted file place) V W grows (nothing_dotted file place) v.of v.first ss

    value_all : (file place : ℕ) (v : Value) (ss : List SiteAt) (c : Const) → (rule.valued bs cs bases V file place v ss).0.value ≡ Some c → (rule.valued bs cs bases V file place v ss).1.made ≡ (rule.valued bs cs bases W file place v ss).1.made
    value_all file place v ss c e = all_made (np file place) (bp file place) (dotted file place) V W grows (nothing_dotted file place) v.of v.first ss c e

  value_sites : (V : Values) (file place : ℕ) (v : Value) (ss : List SiteAt) → (rule.valued bs cs bases V file place v ss).1.sites ≡ (rule.valued bs cs bases [] file place v ss).1.sites
  value_sites V file place v ss = sym (
      ap (λ at. (visit.expr Piece Kept at v.of (from_node v.first ss)).1.sites) (at_none_same (np file place) (bp file place) (dotted file place) (length V))
      ∙ (Rattle.names_constants.proofs.Grows.expr_grows (np file place) (bp file place) (dotted file place) (nones (length V)) V (rounds.nones_below V) v.of (from_node v.first ss)).1.1)

  value_rises : (V : Values) (file place : ℕ) (v : Value) (ss : List SiteAt) → Rising (length ss) (length (rule.valued bs cs bases [] file place v ss).1.sites) (rule.valued bs cs bases V file place v ss).1.made
  value_rises V file place v ss = subst (λ (after : List SiteAt). Rising (length ss) (length after) (rule.valued bs cs bases V file place v ss).1.made) (value_sites V file place v ss) (made_rises (np file place) (bp file place) (dotted file place) V V (all_itself V) (nothing_dotted file place) v.of v.first ss)

  -- ---- what is made by all members, in order

  up : (ms : Made) (from to last : ℕ) → to ≤ last → Rising from to ms → Rising from last ms
  up [] from to last h r = omega (arith, h, r)
  up (p ∷ ms) from to last h r = (r.0, up ms (p.site + 1) to last h r.1)

  stays : (n : ℕ) → Rising n n []
  stays n = omega arith

  default_rises : (V : Values) (file place : ℕ) (o : Option Value) (ss : List SiteAt) → Rising (length ss) (length (rule.after_default bs cs bases file place o ss)) (rule.default_made bs cs bases V file place o ss)
  default_rises V file place None ss = stays (length ss)
  default_rises V file place (Some v) ss = value_rises V file place v ss

  formals_rise : (V : Values) (file place : ℕ) (ps : List Formal) (ss : List SiteAt) → Rising (length ss) (length (rule.after_formals bs cs bases file place ps ss)) (rule.formals_made bs cs bases V file place ps ss)
  formals_rise V file place [] ss = stays (length ss)
  formals_rise V file place (p ∷ ps) ss =
      rising_append (rule.default_made bs cs bases V file place p.default ss) (rule.formals_made bs cs bases V file place ps (rule.after_default bs cs bases file place p.default ss)) (length ss) (length (rule.after_default bs cs bases file place p.default ss)) _
      (default_rises V file place p.default ss) (formals_rise V file place ps (rule.after_default bs cs bases file place p.default ss))

  what_rises : (V : Values) (file place : ℕ) (w : What) (ss : List SiteAt) → Rising (length ss) (length (rule.after_what bs cs bases file place w ss)) (what_made bs cs bases V file place w ss)
  what_rises V file place (member.Import of) ss = stays (length ss)
  what_rises V file place (member.From path of) ss = stays (length ss)
  what_rises V file place (member.Constant name v) ss = value_rises V file place v ss
  what_rises V file place (member.Def name ps star b) ss =
      up (rule.formals_made bs cs bases V file place ps ss) (length ss) (length (rule.after_formals bs cs bases file place ps ss)) _
      (body_grows (name_part bs cs bases file place (locals ps b.of)) (bound_part bs cs bases file place (locals ps b.of)) (attr_part bs cs bases file place (locals ps b.of)) false [] b (rule.after_formals bs cs bases file place ps ss))
      (formals_rise V file place ps ss)
  what_rises V file place (member.Class name base) ss = stays (length ss)

  pub all_rise : (V : Values) (ps : List Placed) (ss : List SiteAt) → Rising (length ss) (length (rule.after_members bs cs bases ps ss)) (made_from bs cs bases V ss ps)
  all_rise V [] ss = stays (length ss)
  all_rise V (p ∷ ps) ss = rising_append (what_made bs cs bases V p.file p.place p.what ss) (made_from bs cs bases V (rule.after bs cs bases p ss) ps) (length ss) (length (rule.after bs cs bases p ss)) _
      (what_rises V p.file p.place p.what ss) (all_rise V ps (rule.after bs cs bases p ss))

  abbrev made_of : Values → Constant → Made
  made_of V c = (rule.of_constant bs cs bases V c).1.made

  -- constants and functions are among the members
  constant_among : (V : Values) (o : Option ℕ) (p : Placed) (ss : List SiteAt) (w : What) → AllByRecursion (λ c. Among (made_of V c) (what_made bs cs bases V p.file p.place w ss)) (rule.constant bs cs bases o p ss w)
  constant_among V o p ss (member.Import of) = tt
  constant_among V o p ss (member.From path of) = tt
  constant_among V o p ss (member.Constant name v) = (among_itself (rule.valued bs cs bases V p.file p.place v ss).1.made, tt)
  constant_among V o p ss (member.Def name ps star b) = tt
  constant_among V o p ss (member.Class name base) = tt

  all_both : (P : Constant → Type 0) (xs ys : List Constant) → AllByRecursion P xs → AllByRecursion P ys → AllByRecursion P (xs ++ ys)
  all_both P [] ys h k = k
  all_both P (x ∷ xs) ys h k = (h.0, all_both P xs ys h.1 k)

  wider : (V : Values) (xs : List Constant) (before ms after : Made) → AllByRecursion (λ c. Among (made_of V c) ms) xs → AllByRecursion (λ c. Among (made_of V c) (before ++ (ms ++ after))) xs
  wider V [] before ms after h = tt
  wider V (x ∷ xs) before ms after h = (among_rest (made_of V x) before (ms ++ after) (among_first (made_of V x) ms after h.0), wider V xs before ms after h.1)

  pub constants_among : (V : Values) (ps : List Placed) (c : Counts) (ss : List SiteAt) (before : Made) → AllByRecursion (λ c. Among (made_of V c) (before ++ made_from bs cs bases V ss ps)) (rule.constants_from bs cs bases c ss ps)
  constants_among V [] c ss before = tt
  constants_among V (p ∷ ps) c ss before =
      let here : Made = what_made bs cs bases V p.file p.place p.what ss in
      let rest : Made = made_from bs cs bases V (rule.after bs cs bases p ss) ps in
      let constants : List Constant = rule.constant bs cs bases (Rattle.names_bound.specs.Declare.class_here p.inside c.classes) p ss p.what in
      let others : List Constant = rule.constants_from bs cs bases (count p.what c) (rule.after bs cs bases p ss) ps in
      all_both (λ c. Among (made_of V c) (before ++ (here ++ rest))) constants others
      (wider V constants before here rest (constant_among V _ p ss p.what))
      (subst (λ (ms : Made). AllByRecursion (λ c. Among (made_of V c) ms) others) (append_assoc before here rest) (constants_among V ps (count p.what c) (rule.after bs cs bases p ss) (before ++ here)))

  function_among : (V : Values) (file place : ℕ) (w : What) (ss : List SiteAt) → Among (rule.what_made bs cs bases V file place w ss) (what_made bs cs bases V file place w ss)
  function_among V file place (member.Import of) ss = tt
  function_among V file place (member.From path of) ss = tt
  function_among V file place (member.Constant name v) ss = tt
  function_among V file place (member.Def name ps star b) ss = among_itself (rule.formals_made bs cs bases V file place ps ss)
  function_among V file place (member.Class name base) ss = tt

  pub functions_among : (V : Values) (ps : List Placed) (ss : List SiteAt) → Among (rule.function_made bs cs bases V ss ps) (made_from bs cs bases V ss ps)
  functions_among V [] ss = tt
  functions_among V (p ∷ ps) ss = among_both (rule.what_made bs cs bases V p.file p.place p.what ss) (rule.function_made bs cs bases V (rule.after bs cs bases p ss) ps) (made_from bs cs bases V ss (p ∷ ps))
      (among_first (rule.what_made bs cs bases V p.file p.place p.what ss) (what_made bs cs bases V p.file p.place p.what ss) (made_from bs cs bases V (rule.after bs cs bases p ss) ps) (function_among V p.file p.place p.what ss))
      (among_rest (rule.function_made bs cs bases V (rule.after bs cs bases p ss) ps) (what_made bs cs bases V p.file p.place p.what ss) (made_from bs cs bases V (rule.after bs cs bases p ss) ps) (functions_among V ps (rule.after bs cs bases p ss)))

  -- and where those are covered all are
  cover_front : (ms : Made) (xs ys : Made) → Covers ms (xs ++ ys) → Covers ms xs
  cover_front ms [] ys h = tt
  cover_front ms (x ∷ xs) ys h = (h.0, cover_front ms xs ys h.1)

  cover_back : (ms : Made) (xs ys : Made) → Covers ms (xs ++ ys) → Covers ms ys
  cover_back ms [] ys h = h
  cover_back ms (x ∷ xs) ys h = cover_back ms xs ys h.1

  all_front : (P : Constant → Type 0) (xs ys : List Constant) → AllByRecursion P (xs ++ ys) → AllByRecursion P xs
  all_front P [] ys h = tt
  all_front P (x ∷ xs) ys h = (h.0, all_front P xs ys h.1)

  all_back : (P : Constant → Type 0) (xs ys : List Constant) → AllByRecursion P (xs ++ ys) → AllByRecursion P ys
  all_back P [] ys h = h
  all_back P (x ∷ xs) ys h = all_back P xs ys h.1

  what_covered : (V : Values) (ms : Made) (o : Option ℕ) (p : Placed) (w : What) (ss : List SiteAt) → AllByRecursion (λ c. Covers ms (made_of V c)) (rule.constant bs cs bases o p ss w) → Covers ms (rule.what_made bs cs bases V p.file p.place w ss) → Covers ms (what_made bs cs bases V p.file p.place w ss)
  what_covered V ms o p (member.Import of) ss h k = tt
  what_covered V ms o p (member.From path of) ss h k = tt
  what_covered V ms o p (member.Constant name v) ss h k = h.0
  what_covered V ms o p (member.Def name ps star b) ss h k = k
  what_covered V ms o p (member.Class name base) ss h k = tt

  pub all_covered : (V : Values) (ms : Made) (ps : List Placed) (c : Counts) (ss : List SiteAt) → AllByRecursion (λ c. Covers ms (made_of V c)) (rule.constants_from bs cs bases c ss ps) → Covers ms (rule.function_made bs cs bases V ss ps) → Covers ms (made_from bs cs bases V ss ps)
  all_covered V ms [] c ss h k = tt
  all_covered V ms (p ∷ ps) c ss h k =
      let o : Option ℕ = Rattle.names_bound.specs.Declare.class_here p.inside c.classes in
      let next : List SiteAt = rule.after bs cs bases p ss in
      covers_both (what_made bs cs bases V p.file p.place p.what ss) (made_from bs cs bases V next ps) ms
      (what_covered V ms o p p.what ss (all_front (λ c. Covers ms (made_of V c)) (rule.constant bs cs bases o p ss p.what) (rule.constants_from bs cs bases (count p.what c) next ps) h) (cover_front ms (rule.what_made bs cs bases V p.file p.place p.what ss) (rule.function_made bs cs bases V next ps) k))
      (all_covered V ms ps (count p.what c) next (all_back (λ c. Covers ms (made_of V c)) (rule.constant bs cs bases o p ss p.what) (rule.constants_from bs cs bases (count p.what c) next ps) h) (cover_back ms (rule.what_made bs cs bases V p.file p.place p.what ss) (rule.function_made bs cs bases V next ps) k))

  -- ---- round after round

  module _ (names : Names) (found : List Found) (ats : List ConstantAt) (all : List Constant) (are : AreConstants bs cs bases names found ats all) (M : Made) where
    abbrev final : Values
    final = rule.values bs cs bases all

    abbrev value_by : Values → Constant → Option Const
    value_by V c = rule.value_of bs cs bases V c

    module _ (every : AllByRecursion (λ c. Among (made_of final c) M) all) where
      -- of constants that have values, all is made
      abbrev Settled : Made → Values → List Constant → Type 0
      Settled ms [] ks = Unit {0}
      Settled ms (v ∷ vs) [] = Unit {0}
      Settled ms (None ∷ vs) (k ∷ ks) = Settled ms vs ks
      Settled ms (Some d ∷ vs) (k ∷ ks) = Covers ms (made_of final k) × Settled ms vs ks

      more_settled : (vs : Values) (ks : List Constant) (ms more : Made) → Settled ms vs ks → Settled (ms ++ more) vs ks
      more_settled [] ks ms more h = tt
      more_settled (v ∷ vs) [] ms more h = tt
      more_settled (None ∷ vs) (k ∷ ks) ms more h = more_settled vs ks ms more h
      more_settled (Some d ∷ vs) (k ∷ ks) ms more h = (covers_first (made_of final k) ms more h.0, more_settled vs ks ms more h.1)

      first_same : (x y : Constant) → Some x ≡ Some y → x ≡ y
      first_same x y e = ap (or_else x) e where
        or_else : Constant → Option Constant → Constant
        or_else d None = d
        or_else d (Some z) = z

      tail_settled : (v : Option Const) (vs : Values) (k : Constant) (ks : List Constant) (ms : Made) → Settled ms (v ∷ vs) (k ∷ ks) → Settled ms vs ks
      tail_settled None vs k ks ms h = h
      tail_settled (Some d) vs k ks ms h = h.1

      set_settled : (vs : Values) (ks : List Constant) (n : ℕ) (c : Constant) (d : Const) (ms : Made) → slice_get ks n ≡ Some c → Covers ms (made_of final c) → Settled ms vs ks → Settled ms (slice_set vs n (Some d)) ks
      set_settled [] ks zero c d ms e k h = tt
      set_settled [] ks (suc n) c d ms e k h = tt
      set_settled (v ∷ vs) [] zero c d ms e k h = tt
      set_settled (v ∷ vs) [] (suc n) c d ms e k h = tt
      set_settled (v ∷ vs) (x ∷ ks) zero c d ms e k h = (subst (λ (y : Constant). Covers ms (made_of final y)) (sym (first_same x c e)) k, tail_settled v vs x ks ms h)
      set_settled (None ∷ vs) (x ∷ ks) (suc n) c d ms e k h = set_settled vs ks n c d ms e k h
      set_settled (Some b ∷ vs) (x ∷ ks) (suc n) c d ms e k h = (h.0, set_settled vs ks n c d ms e k h.1)

      at_every : (ks : List Constant) (n : ℕ) (c : Constant) → AllByRecursion (λ c. Among (made_of final c) M) ks → slice_get ks n ≡ Some c → Among (made_of final c) M
      at_every [] n c h e = absurd cc
      at_every (k ∷ ks) zero c h e = subst (λ (y : Constant). Among (made_of final y) M) (first_same k c e) h.0
      at_every (k ∷ ks) (suc n) c h e = at_every ks n c h.1 e

      -- what is made is among what is made in the end, and of settled constants it is all
      record Good (v : Code) : Type 0 where
        sound : AllBelow v.constants final
        among : Among v.prebuilt M
        settled : Settled v.prebuilt v.constants all

      abbrev made_more : Code → Constant → Code
      made_more v c = record { constants = v.constants; prebuilt = v.prebuilt ++ made_of v.constants c; changed = v.changed }

      more_good : (v : Code) (n : ℕ) (c : Constant) → slice_get all n ≡ Some c → Good v → Good (made_more v c)
      more_good v n c e g = record {
        sound = g.sound;
        among = among_both v.prebuilt (made_of v.constants c) M g.among (among_trans (made_of v.constants c) (made_of final c) M (value_among v.constants final g.sound c.file c.place c.value c.sites) (at_every all n c every e));
        settled = more_settled v.constants all v.prebuilt (made_of v.constants c) g.settled;
      }

      value_final : (n : ℕ) (c : Constant) → slice_get all n ≡ Some c → slice_get final n ≡ Some (value_by final c)
      value_final n c e = ap (λ vs. slice_get vs n) (fixed bs cs bases all) ∙ get_mapped (value_by final) all n c e

      put_good : (v : Code) (n : ℕ) (c : Constant) (o : Option Const) → slice_get all n ≡ Some c → Good v → value_by v.constants c ≡ o → Good (code.put n o (made_more v c))
      put_good v n c None e g f = more_good v n c e g
      put_good v n c (Some d) e g f = by_test (nat_lt n (length v.constants)) where
        told : value_by final c ≡ Some d
        told = subst (λ (o : Option Const). Below o (value_by final c)) f (rounds.value_grows bs cs bases c v.constants final g.sound)

        good : Good (made_more v c)
        good = more_good v n c e g

        by_test : (b : Bool) → Good (code.put_if b n d (made_more v c))
        by_test false = good
        by_test true = record {
          sound = set_below v.constants final n d g.sound (value_final n c e ∙ ap Some told);
          among = good.among;
          settled = set_settled v.constants all n c d (v.prebuilt ++ made_of v.constants c) e
              (covers_last (made_of final c) v.prebuilt (made_of v.constants c) (subst (λ (ms : Made). Covers ms (made_of final c)) (sym (value_all v.constants final g.sound c.file c.place c.value c.sites d f)) (covers_itself (made_of final c))))
              good.settled;
        }

      open_good : (v : Code) (n : ℕ) (a : ConstantAt) (c : Constant) → rounds.IsConstant bs cs bases names found a c → slice_get all n ≡ Some c → Good v → Good (code.settle_open names n (code.steps_of found a.unit) v)
      open_good v n a c h e g = by_test (code.is_open v.constants n) where
        by_test : (b : Bool) → Good (cond b (code.settle names n (code.steps_of found a.unit) v) v)
        by_test false = g
        by_test true = subst (λ (w : Code). Good w) (sym (settled bs cs bases names found a c n v h)) (put_good v n c (value_by v.constants c) e g refl)

      next_place : {A : Type 0} (xs : List A) (x : A) (n : ℕ) → n ≡ length xs → n + 1 ≡ length (xs ++ x ∷ [])
      next_place xs x n e = omega (arith, e, length-append xs (x ∷ []))

      pass_good : (some : List ConstantAt) (ks before : List Constant) (n : ℕ) (v : Code) → AreConstants bs cs bases names found some ks → all ≡ before ++ ks → n ≡ length before → Good v → Good (code.pass_from names found n some v)
      pass_good [] ks before n v h e m g = g
      pass_good (a ∷ some) [] before n v h e m g = absurd h
      pass_good (a ∷ some) (c ∷ ks) before n v h e m g =
          pass_good some ks (before ++ c ∷ []) (n + 1) (code.settle_open names n (code.steps_of found a.unit) v) h.1 (e ∙ sym (append_assoc before (c ∷ []) ks)) (next_place before c n m)
          (open_good v n a c h.0 ((λ j. slice_get (e j) (m j)) ∙ get_end before ks c) g)

      rounds_good : (n : ℕ) (v : Code) → Good v → Good (code.rounds names found ats n v)
      rounds_good zero v g = g
      rounds_good (suc n) v g = by_test v.changed (rounds_good n (code.pass names found ats v) next) where
        by_test : (b : Bool) → Good (code.rounds names found ats n (code.pass names found ats v)) → Good (cond b (code.rounds names found ats n (code.pass names found ats v)) v)
        by_test false later = g
        by_test true later = later

        next : Good (code.pass names found ats v)
        next = (pass_good ats all [] 0 (record { constants = v.constants; prebuilt = v.prebuilt; changed = false }) are refl refl (record { sound = g.sound; among = g.among; settled = g.settled }))

      none_settled : (n : ℕ) (ks : List Constant) → Settled [] (nones n) ks
      none_settled zero ks = tt
      none_settled (suc n) [] = tt
      none_settled (suc n) (k ∷ ks) = none_settled n ks

      abbrev pub ended : Code
      ended = code.constant_values names found ats

      ended_good : Good ended
      ended_good = rounds_good (length ats) (record { constants = code.none_yet (length ats); prebuilt = []; changed = true })
          (record { sound = none_sound bs cs bases names found ats all are; among = tt; settled = subst (λ (vs : Values). Settled [] vs all) (sym (none_yet_is (length ats))) (none_settled (length ats) all) })

      pub ended_among : Among ended.prebuilt M
      ended_among = ended_good.among

      ended_settled : Settled ended.prebuilt (map (value_by final) all) all
      ended_settled = subst (λ (vs : Values). Settled ended.prebuilt vs all) (values_are bs cs bases names found ats all are ∙ fixed bs cs bases all) ended_good.settled

      -- ---- with what is made by constants that have no value

      unsettled_among : (ks : List Constant) → AllByRecursion (λ c. Among (made_of final c) M) ks → Among (unsettled_made bs cs bases final ks) M
      unsettled_among [] h = tt
      unsettled_among (k ∷ ks) h = among_both (settled_made bs cs bases (value_by final k) (rule.of_constant bs cs bases final k)) (unsettled_made bs cs bases final ks) M (by_value (value_by final k)) (unsettled_among ks h.1) where
        by_value : (o : Option Const) → Among (settled_made bs cs bases o (rule.of_constant bs cs bases final k)) M
        by_value None = h.0
        by_value (Some d) = tt

      pub open_among : Among (unsettled_made bs cs bases final all) M
      open_among = unsettled_among all every

      each_covered : (ms : Made) (ks : List Constant) (before : Made) → Settled ms (map (value_by final) ks) ks → AllByRecursion (λ c. Covers (ms ++ (before ++ unsettled_made bs cs bases final ks)) (made_of final c)) ks
      each_covered ms [] before h = tt
      each_covered ms (k ∷ ks) before h = (by_value (value_by final k) h, later (each_covered ms ks (before ++ settled_made bs cs bases (value_by final k) (rule.of_constant bs cs bases final k)) (tail_settled (value_by final k) (map (value_by final) ks) k ks ms h))) where
        by_value : (o : Option Const) → Settled ms (o ∷ map (value_by final) ks) (k ∷ ks) → Covers (ms ++ (before ++ (settled_made bs cs bases o (rule.of_constant bs cs bases final k) ++ unsettled_made bs cs bases final ks))) (made_of final k)
        by_value None g = covers_last (made_of final k) ms _ (covers_last (made_of final k) before _ (covers_first (made_of final k) (made_of final k) (unsettled_made bs cs bases final ks) (covers_itself (made_of final k))))
        by_value (Some d) g = covers_first (made_of final k) ms _ g.0

        later : AllByRecursion (λ c. Covers (ms ++ ((before ++ settled_made bs cs bases (value_by final k) (rule.of_constant bs cs bases final k)) ++ unsettled_made bs cs bases final ks)) (made_of final c)) ks
            → AllByRecursion (λ c. Covers (ms ++ (before ++ (settled_made bs cs bases (value_by final k) (rule.of_constant bs cs bases final k) ++ unsettled_made bs cs bases final ks))) (made_of final c)) ks
        later g = subst (λ (xs : Made). AllByRecursion (λ c. Covers (ms ++ xs) (made_of final c)) ks) (append_assoc before (settled_made bs cs bases (value_by final k) (rule.of_constant bs cs bases final k)) (unsettled_made bs cs bases final ks)) g

      pub all_constants_covered : AllByRecursion (λ c. Covers (ended.prebuilt ++ unsettled_made bs cs bases final all) (made_of final c)) all
      all_constants_covered = each_covered ended.prebuilt all [] ended_settled
