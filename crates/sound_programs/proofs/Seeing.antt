-- The classes, sites and functions of the program that the meaning makes are those of the program.
use Rattle.std.proofs.Common.{◌≡◌, ℕ, zero, suc, Bool, true, false, List, [], ◌∷◌, ◌++◌, length, map, Option, Some, None, refl, sym, ap, ◌∙◌, subst, arith}
use Rattle.std.specs.Prelude.{slice_get, option_map, zip}
use Rattle.std.proofs.lemmas.Option.{slice_get-map}
use Rattle.rpy_tree.specs.declared.program.ClassInfo.{ClassInfo}
use Rattle.rpy_tree.specs.declared.program.Const.{Const}
use Rattle.rpy_tree.specs.declared.program.Program.{Program}
use Rattle.rpy_tree.specs.declared.program.Site.{Site}
use Rattle.rpy_tree.specs.Value.{Value, Object}
use Rattle.rpy_meaning.specs.Operations.{constant}
use Rattle.rpy_meaning.specs.Resolved.{class_by, builtin_names, class_names_from}
use Rattle.rpy_meaning.specs.Tree.{Class}
use Rattle.resolved_meaning.specs.Programs as programs
use Rattle.resolved_meaning.proofs.Sites.{constant_same}
use Rattle.resolved_laws.specs.Meant.{meant_by, further_of}
use Rattle.sound_rows.specs.Seen.{IsSeenAs, SeenAt, values_of}
use Rattle.sound_runs.specs.Start as begin
use Rattle.sound_runs.specs.Start.{ContentsThere, SiteAt}

module _ (p : Program) (sites_are : (meant_by p).sites ≡ programs.sites_of p.sites) where
  abbrev sites : List (Option Object)
  sites = (meant_by p).sites

  pub constant_is : (c : Const) → programs.value_in p.sites c ≡ constant sites c
  constant_is c = constant_same p.sites c ∙ ap (λ all. constant all c) (sym sites_are)

  -- ---- classes

  values_are : (constants : List (List ℕ × Const)) → map (λ (a : List ℕ × Const). (a.0, programs.value_in p.sites a.1)) constants ≡ values_of sites constants
  values_are [] = refl
  values_are (x ∷ xs) = ap (λ v. (x.0, v) ∷ map (λ (a : List ℕ × Const). (a.0, programs.value_in p.sites a.1)) xs) (constant_is x.1) ∙ ap (λ vs. (x.0, constant sites x.1) ∷ vs) (values_are xs)

  class_seen : (name : List ℕ) (info : ClassInfo) → IsSeenAs sites info (class_by p (further_of p) name info)
  class_seen name info = record { base = refl; methods = refl; constants = values_are info.constants }

  abbrev made : List (List ℕ) → List ClassInfo → List Class
  made names infos = map (λ (c : List ℕ × ClassInfo). class_by p (further_of p) c.0 c.1) (zip names infos)

  seen_in : (names : List (List ℕ)) (infos : List ClassInfo) → length (made names infos) ≡ length infos → (c : ℕ) → SeenAt sites (slice_get infos c) (slice_get (made names infos) c)
  seen_in [] [] h c = tt
  seen_in [] (info ∷ infos) h c = absurd (omega (arith, h))
  seen_in (name ∷ names) [] h c = tt
  seen_in (name ∷ names) (info ∷ infos) h zero = class_seen name info
  seen_in (name ∷ names) (info ∷ infos) h (suc c) = seen_in names infos (omega (arith, h)) c

  pub classes_seen : length (meant_by p).classes ≡ length p.classes → (c : ℕ) → SeenAt sites (slice_get p.classes c) (slice_get (meant_by p).classes c)
  classes_seen h c = seen_in (builtin_names ++ class_names_from p (further_of p) p.names p.modules) p.classes h c

  -- ---- sites

  values_same : programs.value_in p.sites ≡ constant sites
  values_same i c = constant_is c i

  contents_are : (dict : Bool) (o : Option (List (Const × Const))) → option_map (programs.contents (programs.value_in p.sites) dict) o ≡ option_map (begin.contents sites dict) o
  contents_are true None = refl
  contents_are false None = refl
  contents_are true (Some pairs) = ap (λ (value : Const → Value). Some (programs.contents value true pairs)) values_same
  contents_are false (Some pairs) = ap (λ (value : Const → Value). Some (programs.contents value false pairs)) values_same

  site_in : (o : Option Site) → ((site : Site) → o ≡ Some site → ContentsThere sites site.prebuilt) → SiteAt sites o (option_map (programs.object_at p.sites) o)
  site_in None h = tt
  site_in (Some site) h = (contents_are site.dict site.prebuilt, h site refl)

  pub sites_seen : ((s : ℕ) (site : Site) → slice_get p.sites s ≡ Some site → ContentsThere sites site.prebuilt) → (s : ℕ) → SiteAt sites (slice_get p.sites s) (slice_get sites s)
  sites_seen h s =
      subst (λ o. SiteAt sites (slice_get p.sites s) o) (sym (slice_get-map (programs.object_at p.sites) p.sites s) ∙ ap (λ all. slice_get all s) (sym sites_are)) (site_in (slice_get p.sites s) (h s))
