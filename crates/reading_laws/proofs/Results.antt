-- The graphs that are taken to give something do.
use Rattle.std.proofs.Common.{◌≡◌, ℕ, ◌==◌, Bool, true, false, List, Option, Some, None, refl, sym, ◌∙◌, ap, subst}
use Rattle.std.specs.Prelude.{if◌then◌else◌, ◌≢◌, slice_get}
use Rattle.ll_code.specs.declared.program.LlBlock.{LlBlock}
use Rattle.ll_code.specs.declared.program.LlGraph.{LlGraph}
use Rattle.ll_code.specs.declared.program.LlType.TheVariants as type
use Rattle.ll_build.specs.declared.needs.Helper.{Helper}
use Rattle.ll_build.specs.declared.needs.Helper.TheVariants as helper
use Rattle.ll_build.specs.declared.needs.Numbers.{Numbers}
use Rattle.ll_helpers.specs.Helpers.{graph_for}
use Rattle.rtyper_layout.specs.declared.classes.Laid.{Laid}
use Rattle.rtyper_layout.specs.declared.layout.Layout.{Layout}
use Rattle.rtyper_data.specs.declared.found.Found.{Found}
use Rattle.rtyper_data.specs.declared.small.Keyed.{Keyed}
use Rattle.rtyper_data.specs.declared.small.Keyed.TheVariants as keyed
use Rattle.rtyper_data.specs.declared.small.Listed.{Listed}
use Rattle.rtyper_data.specs.declared.small.Listed.TheVariants as listed
use Rattle.rtyper_data.specs.declared.small.Small.{Small}
use Rattle.rtyper_data.specs.declared.small.Small.TheVariants as small
use Rattle.rtyper_data.specs.Graphs.{cast_graph, equality_graph}
use Rattle.list_loops.specs.Loops.{contains, contains_graph, place, truth}
use Rattle.list_loops.specs.Making.{but_last, but_last_graph, concat, concat_graph, make, repeat, repeat_graph, slice, slice_graph}
use Rattle.list_texts.specs.Splitting.{join, join_graph, split, split_graph}
use Rattle.list_helpers.specs.Listing.{list_graph}
use Rattle.rtyper_class.specs.Instances.{attribute, is_instance, type_of_field, value_field}
use Rattle.rtyper_class.specs.Seen.{World, laid}
use Rattle.rtyper_class.specs.Smalls.{class_graph, new_by}
use Rattle.rtyper_dict.specs.declared.parts.DictShape.{DictShape}
use Rattle.rtyper_dict.specs.Graphs.{changing, dict_graph}
use Rattle.rtyper_dict.specs.Growing.{make as make_dict}
use Rattle.rtyper_dict.specs.Looking.{entry, entry_graph, find, find_by_index, find_by_scan, find_graph, scan_graph}
use Rattle.rtyper_dict.specs.Listing.{get, get_graph, list as list_of, list_graph as entries_graph, truth as dict_truth, value}
use Rattle.rtyper_dict.specs.Parts.{dict_at}
use Rattle.rtyper_program.specs.Program.{small_of}
use Rattle.reading_laws.specs.Results.{helper_gives, KeyedGives, ListedGives, SmallGives}
use Rattle.reading_laws.specs.Standing.{HasTypedParts}

pub helper_result : (numbers : Numbers) (h : Helper) → helper_gives h ≡ true → (graph_for numbers h).result ≢ type.Void
helper_result numbers helper.PrintWord g e = absurd (cc)
helper_result numbers helper.PrintBool g e = absurd (cc)
helper_result numbers helper.PrintStr g e = absurd (cc)
helper_result numbers helper.WordDiv g e = absurd (cc)
helper_result numbers helper.WordMod g e = absurd (cc)
helper_result numbers helper.WordShl g e = absurd (cc)
helper_result numbers helper.WordShr g e = absurd (cc)
helper_result numbers helper.WordChr g e = absurd (cc)
helper_result numbers helper.WordMin g e = absurd (cc)
helper_result numbers helper.WordMax g e = absurd (cc)
helper_result numbers helper.RangeUp g e = absurd (cc)
helper_result numbers helper.RangeDown g e = absurd (cc)
helper_result numbers helper.IsDigit g e = absurd (cc)
helper_result numbers helper.IsAlpha g e = absurd (cc)
helper_result numbers helper.IsSpace g e = absurd (cc)
helper_result numbers helper.StrWrite g e = absurd (cc)
helper_result numbers helper.StrOfChar g e = absurd (cc)
helper_result numbers helper.StrOfWord g e = absurd (cc)
helper_result numbers helper.StrOfBool g e = absurd (cc)
helper_result numbers helper.StrAdd g e = absurd (cc)
helper_result numbers helper.StrMul g e = absurd (cc)
helper_result numbers helper.StrIndex g e = absurd (cc)
helper_result numbers helper.StrSlice g e = absurd (cc)
helper_result numbers helper.StrButLast g e = absurd (cc)
helper_result numbers helper.StrLen g e = absurd (cc)
helper_result numbers helper.StrTruth g e = absurd (cc)
helper_result numbers helper.StrEqual g e = absurd (cc)
helper_result numbers helper.StrLess g e = absurd (cc)
helper_result numbers helper.StrContains g e = absurd (cc)
helper_result numbers helper.StrFind g e = absurd (cc)
helper_result numbers helper.StrStartsWith g e = absurd (cc)
helper_result numbers helper.StrEndsWith g e = absurd (cc)
helper_result numbers helper.StrStrip g e = absurd (cc)
helper_result numbers helper.StrWalk g e = absurd (cc)
helper_result numbers helper.StrHasItem g e = absurd (cc)
helper_result numbers helper.StrItem g e = absurd (cc)

-- ---- lists

listed_result : (layout : Layout) (l : Listed) (found : Found) → ListedGives l → (list_graph layout l found).0.result ≢ type.Void
unfolding place truth make concat concat_graph repeat repeat_graph slice slice_graph but_last but_last_graph contains contains_graph join join_graph split split_graph
listed_result layout (listed.Place l raises) found g e = absurd (cc)
listed_result layout (listed.Make l) found g e = absurd (cc)
listed_result layout (listed.Concat l m r) found g e = absurd (cc)
listed_result layout (listed.Repeat l r) found g e = absurd (cc)
listed_result layout (listed.Slice l r) found g e = absurd (cc)
listed_result layout (listed.ButLast l r) found g e = absurd (cc)
listed_result layout (listed.Contains kind l) found g e = absurd (cc)
listed_result layout (listed.Truth l) found g e = absurd (cc)
listed_result layout (listed.Join l) found g e = absurd (cc)
listed_result layout (listed.Split l) found g e = absurd (cc)
listed_result layout (listed.Remove l) found g e = absurd (g)
listed_result layout (listed.Copy a b) found g e = absurd (g)
listed_result layout (listed.MoveUp a) found g e = absurd (g)
listed_result layout (listed.Room l) found g e = absurd (g)
listed_result layout (listed.Append l) found g e = absurd (g)
listed_result layout (listed.Insert l) found g e = absurd (g)
listed_result layout (listed.Extend l m) found g e = absurd (g)
listed_result layout (listed.Reverse l) found g e = absurd (g)
listed_result layout (listed.Arguments l) found g e = absurd (g)
listed_result layout listed.Part found g e = absurd (g)

-- ---- dicts

find_result : (layout : Layout) (d : DictShape) (found : Found) → (find layout d found).0.result ≢ type.Void
unfolding find find_by_index find_by_scan find_graph scan_graph
find_result layout d found = on d.is_indexed
  where
    on : (b : Bool) → (if b then find_by_index layout d found else find_by_scan layout d found).0.result ≢ type.Void
    on true e = absurd (cc)
    on false e = absurd (cc)

keyed_result : (world : World) (k : Keyed) (found : Found) → HasTypedParts world → KeyedGives k → (dict_graph world.around.layout k found).0.result ≢ type.Void
unfolding dict_graph changing make_dict entry entry_graph value get get_graph dict_truth list_of entries_graph
keyed_result world (keyed.Make d) found t g e = absurd (cc)
keyed_result world (keyed.Find d) found t g e = find_result world.around.layout (dict_at world.around.layout d) found e
keyed_result world (keyed.Entry d) found t g e = absurd (cc)
keyed_result world (keyed.Value d) found t g e = t.values d e
keyed_result world (keyed.Get d kind) found t g e = g e
keyed_result world (keyed.Truth d) found t g e = absurd (cc)
keyed_result world (keyed.Keys d l) found t g e = absurd (cc)
keyed_result world (keyed.Values d l) found t g e = absurd (cc)
keyed_result world (keyed.Items d l) found t g e = absurd (cc)
keyed_result world (keyed.Hash kind) found t g e = absurd (g)
keyed_result world keyed.Size found t g e = absurd (g)
keyed_result world (keyed.Fill a) found t g e = absurd (g)
keyed_result world (keyed.Enter d) found t g e = absurd (g)
keyed_result world (keyed.Index d) found t g e = absurd (g)
keyed_result world (keyed.Grow d) found t g e = absurd (g)
keyed_result world (keyed.Add d) found t g e = absurd (g)
keyed_result world (keyed.Store d) found t g e = absurd (g)
keyed_result world (keyed.Remove d) found t g e = absurd (g)

-- ---- all

instance_result : (world : World) (class : ℕ) (o : Option Laid) (l : Laid) (found : Found) → o ≡ Some l → (new_by world class o found).0.result ≢ type.Void
instance_result world class None l found q e = absurd (cc)
instance_result world class (Some m) l found q e = absurd (cc)

pub small_result : (world : World) (s : Small) (found : Found) → HasTypedParts world → SmallGives world s → (small_of world s found).0.result ≢ type.Void
unfolding cast_graph equality_graph attribute is_instance
small_result world (small.Cast m n) found t g e = absurd (cc)
small_result world (small.Equal m n) found t g e = absurd (cc)
small_result world (small.Present kind raises) found t g e = g e
small_result world (small.New class) found t g e = instance_result world class (laid world class) g.0 found g.1 e
small_result world (small.Attribute own at raises) found t g e = t.attributes own at e
small_result world (small.Checked o raises) found t g e = absurd (cc)
small_result world small.CheckedNeg found t g e = absurd (cc)
small_result world small.IntOfText found t g e = absurd (cc)
small_result world (small.IsInstance root vtable low high) found t g e = absurd (cc)
small_result world (small.Listed l) found t g e = listed_result world.around.layout l found g e
small_result world (small.Keyed k) found t g e = keyed_result world k found t g e
small_result world (small.Fail raises) found t g e = absurd (g)
small_result world (small.Raise class) found t g e = absurd (g)
