-- What follows from the definitions of `Typing`.
use Rattle.std.specs.Prelude.{zero, suc, List, [], ◌∷◌, codes}
use Rattle.std.proofs.Common.{refl, lit≤}
use Rattle.aql_ty.specs.Types as types
use Rattle.aql_ty.specs.Types.{Ty, natural, var, no_type, type, Subst, macro}
use Rattle.aql_ty.specs.Laws.Types.{fits_within}
use Rattle.aql_syntax.specs.Tree.{Declaration}
use Rattle.aql_syntax.specs.Typing.{DeclHas, environment_of}
use Rattle.aql_prelude.specs.Prelude as prelude
use Rattle.aql_prelude.specs.Typing.{PreludeIsTyped}

-- the types that variables stand for, by their numbers
abbrev types_at : List Ty → Subst
types_at [] x = natural
types_at (t ∷ ts) zero = t
types_at (t ∷ ts) (suc x) = types_at ts x

abbrev pub before_fst : List Declaration
before_fst = []

pub fst_has : DeclHas prelude.fst (environment_of before_fst) (macro (types.product (type (var 0) (type (var 1) no_type))) (var 0))
fst_has = (((codes "x", (var 0)) ∷ []), fits_within (types.product (type (var 0) (type (var 1) no_type))) refl, fits_within (var 0) refl, ((type (var 0) (type (var 1) no_type)), refl, ((var 0), (type (var 1) no_type), ((codes "x", (var 0)) ∷ []), refl, refl, ((var 1), no_type, ((codes "x", (var 0)) ∷ []), refl, refl, (refl, refl)))), refl)

abbrev pub before_snd : List Declaration
before_snd = prelude.fst ∷ before_fst

pub snd_has : DeclHas prelude.snd (environment_of before_snd) (macro (types.product (type (var 0) (type (var 1) no_type))) (var 1))
snd_has = (((codes "y", (var 1)) ∷ []), fits_within (types.product (type (var 0) (type (var 1) no_type))) refl, fits_within (var 1) refl, ((type (var 0) (type (var 1) no_type)), refl, ((var 0), (type (var 1) no_type), [], refl, refl, ((var 1), no_type, ((codes "y", (var 1)) ∷ []), refl, refl, (refl, refl)))), refl)

abbrev pub before_isempty : List Declaration
before_isempty = prelude.snd ∷ before_snd

pub isempty_has : DeclHas prelude.isempty (environment_of before_isempty) (macro (types.set_of (var 0)) types.truth)
isempty_has = (((codes "s", (types.set_of (var 0))) ∷ []), fits_within (types.set_of (var 0)) refl, fits_within types.truth refl, refl, (((types.set_of (var 0)) ∷ (types.set_of (var 0)) ∷ []), ((types.set_of (var 0)), refl, refl), (fits_within (types.set_of (var 0)) refl), ((types.set_of (var 0)), ((types.set_of (var 0)) ∷ []), refl, refl, ((types.set_of (var 0)), ([]), refl, (([]), ((var 0), refl, refl), tt, refl), refl))))

abbrev pub before_member : List Declaration
before_member = prelude.isempty ∷ before_isempty

pub member_has : DeclHas prelude.member (environment_of before_member) (macro (types.product (type (var 0) (type (types.set_of (var 0)) no_type))) types.truth)
member_has = (((codes "s", (types.set_of (var 0))) ∷ (codes "x", (var 0)) ∷ []), fits_within (types.product (type (var 0) (type (types.set_of (var 0)) no_type))) refl, fits_within types.truth refl, ((type (var 0) (type (types.set_of (var 0)) no_type)), refl, ((var 0), (type (types.set_of (var 0)) no_type), ((codes "x", (var 0)) ∷ []), refl, refl, ((types.set_of (var 0)), no_type, ((codes "s", (types.set_of (var 0))) ∷ (codes "x", (var 0)) ∷ []), refl, refl, (refl, refl)))), (refl, (((types.set_of natural) ∷ (types.set_of natural) ∷ []), ((types.set_of natural), refl, refl), (fits_within (types.set_of natural) refl), ((types.set_of natural), ((types.set_of natural) ∷ []), refl, (natural, ((codes "s", (types.set_of (var 0))) ∷ (codes "x", (var 0)) ∷ []), refl, ((var 0), ((codes "s", (types.set_of (var 0))) ∷ (codes "x", (var 0)) ∷ []), (fits_within (types.set_of (var 0)) refl), refl, (refl, refl), refl), (([]), (refl, refl), tt, refl)), ((types.set_of natural), ([]), refl, (([]), (natural, refl, refl), tt, refl), refl)))))

abbrev pub before_count : List Declaration
before_count = prelude.member ∷ before_member

pub count_has : DeclHas prelude.count (environment_of before_count) (macro (types.set_of (var 0)) natural)
count_has = (((codes "s", (types.set_of (var 0))) ∷ []), fits_within (types.set_of (var 0)) refl, fits_within natural refl, refl, ((var 0), ((codes "s", (types.set_of (var 0))) ∷ []), refl, (fits_within (types.set_of (var 0)) refl), refl, refl, (([]), (refl, refl), tt, refl)))

abbrev pub before_total : List Declaration
before_total = prelude.count ∷ before_count

pub total_has : DeclHas prelude.total (environment_of before_total) (macro (types.set_of natural) natural)
total_has = (((codes "s", (types.set_of natural)) ∷ []), fits_within (types.set_of natural) refl, fits_within natural refl, refl, (natural, ((codes "x", natural) ∷ (codes "s", (types.set_of natural)) ∷ []), refl, (fits_within (types.set_of natural) refl), refl, refl, refl))

abbrev pub before_inter : List Declaration
before_inter = prelude.total ∷ before_total

pub inter_has : DeclHas prelude.inter (environment_of before_inter) (macro (types.product (type (types.set_of (var 0)) (type (types.set_of (var 0)) no_type))) (types.set_of (var 0)))
inter_has = (((codes "t", (types.set_of (var 0))) ∷ (codes "s", (types.set_of (var 0))) ∷ []), fits_within (types.product (type (types.set_of (var 0)) (type (types.set_of (var 0)) no_type))) refl, fits_within (types.set_of (var 0)) refl, ((type (types.set_of (var 0)) (type (types.set_of (var 0)) no_type)), refl, ((types.set_of (var 0)), (type (types.set_of (var 0)) no_type), ((codes "s", (types.set_of (var 0))) ∷ []), refl, refl, ((types.set_of (var 0)), no_type, ((codes "t", (types.set_of (var 0))) ∷ (codes "s", (types.set_of (var 0))) ∷ []), refl, refl, (refl, refl)))), ((var 0), ((codes "x", (var 0)) ∷ (codes "t", (types.set_of (var 0))) ∷ (codes "s", (types.set_of (var 0))) ∷ []), refl, ((var 0), ((codes "x", (var 0)) ∷ (codes "t", (types.set_of (var 0))) ∷ (codes "s", (types.set_of (var 0))) ∷ []), (fits_within (types.set_of (var 0)) refl), refl, refl, ((var 0), ((codes "x", (var 0)) ∷ (codes "t", (types.set_of (var 0))) ∷ (codes "s", (types.set_of (var 0))) ∷ []), (fits_within (types.set_of (var 0)) refl), refl, (refl, refl), refl)), refl))

abbrev pub before_minus : List Declaration
before_minus = prelude.inter ∷ before_inter

pub minus_has : DeclHas prelude.minus (environment_of before_minus) (macro (types.product (type (types.set_of (var 0)) (type (types.set_of (var 0)) no_type))) (types.set_of (var 0)))
minus_has = (((codes "t", (types.set_of (var 0))) ∷ (codes "s", (types.set_of (var 0))) ∷ []), fits_within (types.product (type (types.set_of (var 0)) (type (types.set_of (var 0)) no_type))) refl, fits_within (types.set_of (var 0)) refl, ((type (types.set_of (var 0)) (type (types.set_of (var 0)) no_type)), refl, ((types.set_of (var 0)), (type (types.set_of (var 0)) no_type), ((codes "s", (types.set_of (var 0))) ∷ []), refl, refl, ((types.set_of (var 0)), no_type, ((codes "t", (types.set_of (var 0))) ∷ (codes "s", (types.set_of (var 0))) ∷ []), refl, refl, (refl, refl)))), ((var 0), ((codes "x", (var 0)) ∷ (codes "t", (types.set_of (var 0))) ∷ (codes "s", (types.set_of (var 0))) ∷ []), refl, ((var 0), ((codes "x", (var 0)) ∷ (codes "t", (types.set_of (var 0))) ∷ (codes "s", (types.set_of (var 0))) ∷ []), (fits_within (types.set_of (var 0)) refl), refl, refl, ((refl, ((types.product (type (var 0) (type (types.set_of (var 0)) no_type))), ((fits_within (types.product (type (var 0) (type (types.set_of (var 0)) no_type))) refl), (fits_within types.truth refl), (types_at ((var 0) ∷ []), (macro (types.product (type (var 0) (type (types.set_of (var 0)) no_type))) types.truth), member_has, refl)), (((var 0) ∷ (types.set_of (var 0)) ∷ []), (lit≤ tt, refl), tt, ((var 0), ((types.set_of (var 0)) ∷ []), refl, refl, ((types.set_of (var 0)), ([]), refl, refl, refl))))), refl)), refl))

abbrev pub before_subset : List Declaration
before_subset = prelude.minus ∷ before_minus

pub subset_has : DeclHas prelude.subset (environment_of before_subset) (macro (types.product (type (types.set_of (var 0)) (type (types.set_of (var 0)) no_type))) types.truth)
subset_has = (((codes "t", (types.set_of (var 0))) ∷ (codes "s", (types.set_of (var 0))) ∷ []), fits_within (types.product (type (types.set_of (var 0)) (type (types.set_of (var 0)) no_type))) refl, fits_within types.truth refl, ((type (types.set_of (var 0)) (type (types.set_of (var 0)) no_type)), refl, ((types.set_of (var 0)), (type (types.set_of (var 0)) no_type), ((codes "s", (types.set_of (var 0))) ∷ []), refl, refl, ((types.set_of (var 0)), no_type, ((codes "t", (types.set_of (var 0))) ∷ (codes "s", (types.set_of (var 0))) ∷ []), refl, refl, (refl, refl)))), (((types.set_of (var 0)) ∷ (types.set_of (var 0)) ∷ []), ((types.set_of (var 0)), refl, refl), (fits_within (types.set_of (var 0)) refl), ((types.set_of (var 0)), ((types.set_of (var 0)) ∷ []), refl, ((types.product (type (types.set_of (var 0)) (type (types.set_of (var 0)) no_type))), ((fits_within (types.product (type (types.set_of (var 0)) (type (types.set_of (var 0)) no_type))) refl), (fits_within (types.set_of (var 0)) refl), (types_at ((var 0) ∷ []), (macro (types.product (type (types.set_of (var 0)) (type (types.set_of (var 0)) no_type))) (types.set_of (var 0))), minus_has, refl)), (((types.set_of (var 0)) ∷ (types.set_of (var 0)) ∷ []), (lit≤ tt, refl), tt, ((types.set_of (var 0)), ((types.set_of (var 0)) ∷ []), refl, refl, ((types.set_of (var 0)), ([]), refl, refl, refl)))), ((types.set_of (var 0)), ([]), refl, (([]), ((var 0), refl, refl), tt, refl), refl))))

abbrev pub before_product : List Declaration
before_product = prelude.subset ∷ before_subset

pub product_has : DeclHas prelude.product (environment_of before_product) (macro (types.product (type (types.set_of (var 0)) (type (types.set_of (var 1)) no_type))) (types.set_of (types.product (type (var 0) (type (var 1) no_type)))))
product_has = (((codes "t", (types.set_of (var 1))) ∷ (codes "s", (types.set_of (var 0))) ∷ []), fits_within (types.product (type (types.set_of (var 0)) (type (types.set_of (var 1)) no_type))) refl, fits_within (types.set_of (types.product (type (var 0) (type (var 1) no_type)))) refl, ((type (types.set_of (var 0)) (type (types.set_of (var 1)) no_type)), refl, ((types.set_of (var 0)), (type (types.set_of (var 1)) no_type), ((codes "s", (types.set_of (var 0))) ∷ []), refl, refl, ((types.set_of (var 1)), no_type, ((codes "t", (types.set_of (var 1))) ∷ (codes "s", (types.set_of (var 0))) ∷ []), refl, refl, (refl, refl)))), ((types.product (type (var 0) (type (var 1) no_type))), ((codes "y", (var 1)) ∷ (codes "x", (var 0)) ∷ (codes "t", (types.set_of (var 1))) ∷ (codes "s", (types.set_of (var 0))) ∷ []), refl, ((var 0), ((codes "x", (var 0)) ∷ (codes "t", (types.set_of (var 1))) ∷ (codes "s", (types.set_of (var 0))) ∷ []), (fits_within (types.set_of (var 0)) refl), refl, refl, ((var 1), ((codes "y", (var 1)) ∷ (codes "x", (var 0)) ∷ (codes "t", (types.set_of (var 1))) ∷ (codes "s", (types.set_of (var 0))) ∷ []), (fits_within (types.set_of (var 1)) refl), refl, refl, refl)), (((var 0) ∷ (var 1) ∷ []), (lit≤ tt, refl), tt, ((var 0), ((var 1) ∷ []), refl, refl, ((var 1), ([]), refl, refl, refl)))))

abbrev pub before_flatten : List Declaration
before_flatten = prelude.product ∷ before_product

pub flatten_has : DeclHas prelude.flatten (environment_of before_flatten) (macro (types.set_of (types.set_of (var 0))) (types.set_of (var 0)))
flatten_has = (((codes "s", (types.set_of (types.set_of (var 0)))) ∷ []), fits_within (types.set_of (types.set_of (var 0))) refl, fits_within (types.set_of (var 0)) refl, refl, ((var 0), ((codes "x", (var 0)) ∷ (codes "t", (types.set_of (var 0))) ∷ (codes "s", (types.set_of (types.set_of (var 0)))) ∷ []), refl, ((types.set_of (var 0)), ((codes "t", (types.set_of (var 0))) ∷ (codes "s", (types.set_of (types.set_of (var 0)))) ∷ []), (fits_within (types.set_of (types.set_of (var 0))) refl), refl, refl, ((var 0), ((codes "x", (var 0)) ∷ (codes "t", (types.set_of (var 0))) ∷ (codes "s", (types.set_of (types.set_of (var 0)))) ∷ []), (fits_within (types.set_of (var 0)) refl), refl, refl, refl)), refl))

abbrev pub before_least : List Declaration
before_least = prelude.flatten ∷ before_flatten

pub least_has : DeclHas prelude.least (environment_of before_least) (macro (types.set_of (var 0)) (var 0))
least_has = (((codes "s", (types.set_of (var 0))) ∷ []), fits_within (types.set_of (var 0)) refl, fits_within (var 0) refl, refl, (((types.set_of (var 0)) ∷ []), refl, (fits_within (types.set_of (var 0)) refl), ((types.set_of (var 0)), ([]), refl, ((var 0), ((codes "x", (var 0)) ∷ (codes "s", (types.set_of (var 0))) ∷ []), refl, ((var 0), ((codes "x", (var 0)) ∷ (codes "s", (types.set_of (var 0))) ∷ []), (fits_within (types.set_of (var 0)) refl), refl, refl, ((((types.set_of natural) ∷ (types.set_of natural) ∷ []), ((types.set_of natural), refl, refl), (fits_within (types.set_of natural) refl), ((types.set_of natural), ((types.set_of natural) ∷ []), refl, (natural, ((codes "y", (var 0)) ∷ (codes "x", (var 0)) ∷ (codes "s", (types.set_of (var 0))) ∷ []), refl, ((var 0), ((codes "y", (var 0)) ∷ (codes "x", (var 0)) ∷ (codes "s", (types.set_of (var 0))) ∷ []), (fits_within (types.set_of (var 0)) refl), refl, refl, ((((var 0) ∷ (var 0) ∷ []), ((var 0), refl, refl), (fits_within (var 0) refl), ((var 0), ((var 0) ∷ []), refl, refl, ((var 0), ([]), refl, refl, refl))), refl)), (([]), (refl, refl), tt, refl)), ((types.set_of natural), ([]), refl, (([]), (natural, refl, refl), tt, refl), refl))), refl)), refl), refl)))

abbrev pub before_greatest : List Declaration
before_greatest = prelude.least ∷ before_least

pub greatest_has : DeclHas prelude.greatest (environment_of before_greatest) (macro (types.set_of (var 0)) (var 0))
greatest_has = (((codes "s", (types.set_of (var 0))) ∷ []), fits_within (types.set_of (var 0)) refl, fits_within (var 0) refl, refl, (((types.set_of (var 0)) ∷ []), refl, (fits_within (types.set_of (var 0)) refl), ((types.set_of (var 0)), ([]), refl, ((var 0), ((codes "x", (var 0)) ∷ (codes "s", (types.set_of (var 0))) ∷ []), refl, ((var 0), ((codes "x", (var 0)) ∷ (codes "s", (types.set_of (var 0))) ∷ []), (fits_within (types.set_of (var 0)) refl), refl, refl, ((((types.set_of natural) ∷ (types.set_of natural) ∷ []), ((types.set_of natural), refl, refl), (fits_within (types.set_of natural) refl), ((types.set_of natural), ((types.set_of natural) ∷ []), refl, (natural, ((codes "y", (var 0)) ∷ (codes "x", (var 0)) ∷ (codes "s", (types.set_of (var 0))) ∷ []), refl, ((var 0), ((codes "y", (var 0)) ∷ (codes "x", (var 0)) ∷ (codes "s", (types.set_of (var 0))) ∷ []), (fits_within (types.set_of (var 0)) refl), refl, refl, ((((var 0) ∷ (var 0) ∷ []), ((var 0), refl, refl), (fits_within (var 0) refl), ((var 0), ((var 0) ∷ []), refl, refl, ((var 0), ([]), refl, refl, refl))), refl)), (([]), (refl, refl), tt, refl)), ((types.set_of natural), ([]), refl, (([]), (natural, refl, refl), tt, refl), refl))), refl)), refl), refl)))

abbrev pub before_min2 : List Declaration
before_min2 = prelude.greatest ∷ before_greatest

pub min2_has : DeclHas prelude.min2 (environment_of before_min2) (macro (types.product (type (var 0) (type (var 0) no_type))) (var 0))
min2_has = (((codes "b", (var 0)) ∷ (codes "a", (var 0)) ∷ []), fits_within (types.product (type (var 0) (type (var 0) no_type))) refl, fits_within (var 0) refl, ((type (var 0) (type (var 0) no_type)), refl, ((var 0), (type (var 0) no_type), ((codes "a", (var 0)) ∷ []), refl, refl, ((var 0), no_type, ((codes "b", (var 0)) ∷ (codes "a", (var 0)) ∷ []), refl, refl, (refl, refl)))), ((((var 0) ∷ (var 0) ∷ []), ((var 0), refl, refl), (fits_within (var 0) refl), ((var 0), ((var 0) ∷ []), refl, refl, ((var 0), ([]), refl, refl, refl))), refl, refl))

abbrev pub before_max2 : List Declaration
before_max2 = prelude.min2 ∷ before_min2

pub max2_has : DeclHas prelude.max2 (environment_of before_max2) (macro (types.product (type (var 0) (type (var 0) no_type))) (var 0))
max2_has = (((codes "b", (var 0)) ∷ (codes "a", (var 0)) ∷ []), fits_within (types.product (type (var 0) (type (var 0) no_type))) refl, fits_within (var 0) refl, ((type (var 0) (type (var 0) no_type)), refl, ((var 0), (type (var 0) no_type), ((codes "a", (var 0)) ∷ []), refl, refl, ((var 0), no_type, ((codes "b", (var 0)) ∷ (codes "a", (var 0)) ∷ []), refl, refl, (refl, refl)))), ((((var 0) ∷ (var 0) ∷ []), ((var 0), refl, refl), (fits_within (var 0) refl), ((var 0), ((var 0) ∷ []), refl, refl, ((var 0), ([]), refl, refl, refl))), refl, refl))

abbrev pub before_range : List Declaration
before_range = prelude.max2 ∷ before_max2

pub range_has : DeclHas prelude.range (environment_of before_range) (macro (types.product (type natural (type natural no_type))) (types.set_of natural))
range_has = (((codes "b", natural) ∷ (codes "a", natural) ∷ []), fits_within (types.product (type natural (type natural no_type))) refl, fits_within (types.set_of natural) refl, ((type natural (type natural no_type)), refl, (natural, (type natural no_type), ((codes "a", natural) ∷ []), refl, refl, (natural, no_type, ((codes "b", natural) ∷ (codes "a", natural) ∷ []), refl, refl, (refl, refl)))), (natural, ((codes "i", natural) ∷ (codes "b", natural) ∷ (codes "a", natural) ∷ []), refl, (natural, ((codes "i", natural) ∷ (codes "b", natural) ∷ (codes "a", natural) ∷ []), (fits_within (types.set_of natural) refl), ((natural ∷ []), (refl, refl), tt, (natural, ([]), refl, ((natural ∷ natural ∷ []), (refl, refl), tt, (natural, (natural ∷ []), refl, refl, (natural, ([]), refl, refl, refl))), refl)), refl, refl), ((natural ∷ natural ∷ []), (refl, refl), tt, (natural, (natural ∷ []), refl, refl, (natural, ([]), refl, refl, refl)))))

abbrev pub before_domain : List Declaration
before_domain = prelude.range ∷ before_range

pub domain_has : DeclHas prelude.domain (environment_of before_domain) (macro (types.array_of 1 (var 0)) (types.set_of natural))
domain_has = (((codes "a", (types.array_of 1 (var 0))) ∷ []), fits_within (types.array_of 1 (var 0)) refl, fits_within (types.set_of natural) refl, refl, ((natural ∷ []), (refl, refl), tt, (natural, ([]), refl, (((types.array_of 1 (var 0)) ∷ []), ((var 0), (lit≤ tt, lit≤ tt), refl, refl), (fits_within (types.array_of 1 (var 0)) refl), ((types.array_of 1 (var 0)), ([]), refl, refl, refl)), refl)))

abbrev pub before_cells : List Declaration
before_cells = prelude.domain ∷ before_domain

pub cells_has : DeclHas prelude.cells (environment_of before_cells) (macro (types.array_of 1 (var 0)) (types.set_of (var 0)))
cells_has = (((codes "a", (types.array_of 1 (var 0))) ∷ []), fits_within (types.array_of 1 (var 0)) refl, fits_within (types.set_of (var 0)) refl, refl, ((var 0), ((codes "x", (var 0)) ∷ (codes "a", (types.array_of 1 (var 0))) ∷ []), refl, ((var 0), ((codes "a", (types.array_of 1 (var 0))) ∷ []), ((codes "x", (var 0)) ∷ (codes "a", (types.array_of 1 (var 0))) ∷ []), (fits_within (types.array_of 1 (var 0)) refl), refl, (((codes "a", (types.array_of 1 (var 0))) ∷ []), refl, refl), refl, refl), refl))

abbrev pub before_graph : List Declaration
before_graph = prelude.cells ∷ before_cells

pub graph_has : DeclHas prelude.graph (environment_of before_graph) (macro (types.array_of 1 (var 0)) (types.set_of (types.product (type natural (type (var 0) no_type)))))
graph_has = (((codes "a", (types.array_of 1 (var 0))) ∷ []), fits_within (types.array_of 1 (var 0)) refl, fits_within (types.set_of (types.product (type natural (type (var 0) no_type)))) refl, refl, ((types.product (type natural (type (var 0) no_type))), ((codes "x", (var 0)) ∷ (codes "i", natural) ∷ (codes "a", (types.array_of 1 (var 0))) ∷ []), refl, ((var 0), ((codes "i", natural) ∷ (codes "a", (types.array_of 1 (var 0))) ∷ []), ((codes "x", (var 0)) ∷ (codes "i", natural) ∷ (codes "a", (types.array_of 1 (var 0))) ∷ []), (fits_within (types.array_of 1 (var 0)) refl), refl, (((codes "i", natural) ∷ (codes "a", (types.array_of 1 (var 0))) ∷ []), refl, refl), refl, refl), ((natural ∷ (var 0) ∷ []), (lit≤ tt, refl), tt, (natural, ((var 0) ∷ []), refl, refl, ((var 0), ([]), refl, refl, refl)))))

abbrev pub before_reverse : List Declaration
before_reverse = prelude.graph ∷ before_graph

pub reverse_has : DeclHas prelude.reverse (environment_of before_reverse) (macro (types.array_of 1 (var 0)) (types.array_of 1 (var 0)))
reverse_has = (((codes "a", (types.array_of 1 (var 0))) ∷ []), fits_within (types.array_of 1 (var 0)) refl, fits_within (types.array_of 1 (var 0)) refl, refl, ((var 0), (lit≤ tt, lit≤ tt), refl, ((((types.array_of 1 (var 0)) ∷ []), ((var 0), (lit≤ tt, lit≤ tt), refl, refl), (fits_within (types.array_of 1 (var 0)) refl), ((types.array_of 1 (var 0)), ([]), refl, refl, refl)), tt), (((types.array_of 1 (var 0)) ∷ natural ∷ []), (1, (lit≤ tt, lit≤ tt), refl), (fits_within (types.array_of 1 (var 0)) refl), ((types.array_of 1 (var 0)), (natural ∷ []), refl, refl, (natural, ([]), refl, ((natural ∷ natural ∷ []), (refl, refl), tt, (natural, (natural ∷ []), refl, ((natural ∷ natural ∷ []), (refl, refl), tt, (natural, (natural ∷ []), refl, (((types.array_of 1 (var 0)) ∷ []), ((var 0), (lit≤ tt, lit≤ tt), refl, refl), (fits_within (types.array_of 1 (var 0)) refl), ((types.array_of 1 (var 0)), ([]), refl, refl, refl)), (natural, ([]), refl, refl, refl))), (natural, ([]), refl, (([]), (refl, refl), tt, refl), refl))), refl)))))

abbrev pub before_subseq : List Declaration
before_subseq = prelude.reverse ∷ before_reverse

pub subseq_has : DeclHas prelude.subseq (environment_of before_subseq) (macro (types.product (type (types.array_of 1 (var 0)) (type natural (type natural no_type)))) (types.array_of 1 (var 0)))
subseq_has = (((codes "n", natural) ∷ (codes "s", natural) ∷ (codes "a", (types.array_of 1 (var 0))) ∷ []), fits_within (types.product (type (types.array_of 1 (var 0)) (type natural (type natural no_type)))) refl, fits_within (types.array_of 1 (var 0)) refl, ((type (types.array_of 1 (var 0)) (type natural (type natural no_type))), refl, ((types.array_of 1 (var 0)), (type natural (type natural no_type)), ((codes "a", (types.array_of 1 (var 0))) ∷ []), refl, refl, (natural, (type natural no_type), ((codes "s", natural) ∷ (codes "a", (types.array_of 1 (var 0))) ∷ []), refl, refl, (natural, no_type, ((codes "n", natural) ∷ (codes "s", natural) ∷ (codes "a", (types.array_of 1 (var 0))) ∷ []), refl, refl, (refl, refl))))), ((var 0), (lit≤ tt, lit≤ tt), refl, (refl, tt), (((types.array_of 1 (var 0)) ∷ natural ∷ []), (1, (lit≤ tt, lit≤ tt), refl), (fits_within (types.array_of 1 (var 0)) refl), ((types.array_of 1 (var 0)), (natural ∷ []), refl, refl, (natural, ([]), refl, ((natural ∷ natural ∷ []), (refl, refl), tt, (natural, (natural ∷ []), refl, refl, (natural, ([]), refl, refl, refl))), refl)))))

abbrev pub before_append : List Declaration
before_append = prelude.subseq ∷ before_subseq

pub append_has : DeclHas prelude.append (environment_of before_append) (macro (types.product (type (types.array_of 1 (var 0)) (type (types.array_of 1 (var 0)) no_type))) (types.array_of 1 (var 0)))
append_has = (((codes "b", (types.array_of 1 (var 0))) ∷ (codes "a", (types.array_of 1 (var 0))) ∷ []), fits_within (types.product (type (types.array_of 1 (var 0)) (type (types.array_of 1 (var 0)) no_type))) refl, fits_within (types.array_of 1 (var 0)) refl, ((type (types.array_of 1 (var 0)) (type (types.array_of 1 (var 0)) no_type)), refl, ((types.array_of 1 (var 0)), (type (types.array_of 1 (var 0)) no_type), ((codes "a", (types.array_of 1 (var 0))) ∷ []), refl, refl, ((types.array_of 1 (var 0)), no_type, ((codes "b", (types.array_of 1 (var 0))) ∷ (codes "a", (types.array_of 1 (var 0))) ∷ []), refl, refl, (refl, refl)))), ((var 0), (lit≤ tt, lit≤ tt), refl, (((natural ∷ natural ∷ []), (refl, refl), tt, (natural, (natural ∷ []), refl, (((types.array_of 1 (var 0)) ∷ []), ((var 0), (lit≤ tt, lit≤ tt), refl, refl), (fits_within (types.array_of 1 (var 0)) refl), ((types.array_of 1 (var 0)), ([]), refl, refl, refl)), (natural, ([]), refl, (((types.array_of 1 (var 0)) ∷ []), ((var 0), (lit≤ tt, lit≤ tt), refl, refl), (fits_within (types.array_of 1 (var 0)) refl), ((types.array_of 1 (var 0)), ([]), refl, refl, refl)), refl))), tt), (((natural ∷ natural ∷ []), (natural, refl, refl), (fits_within natural refl), (natural, (natural ∷ []), refl, refl, (natural, ([]), refl, (((types.array_of 1 (var 0)) ∷ []), ((var 0), (lit≤ tt, lit≤ tt), refl, refl), (fits_within (types.array_of 1 (var 0)) refl), ((types.array_of 1 (var 0)), ([]), refl, refl, refl)), refl))), (((types.array_of 1 (var 0)) ∷ natural ∷ []), (1, (lit≤ tt, lit≤ tt), refl), (fits_within (types.array_of 1 (var 0)) refl), ((types.array_of 1 (var 0)), (natural ∷ []), refl, refl, (natural, ([]), refl, refl, refl))), (((types.array_of 1 (var 0)) ∷ natural ∷ []), (1, (lit≤ tt, lit≤ tt), refl), (fits_within (types.array_of 1 (var 0)) refl), ((types.array_of 1 (var 0)), (natural ∷ []), refl, refl, (natural, ([]), refl, ((natural ∷ natural ∷ []), (refl, refl), tt, (natural, (natural ∷ []), refl, refl, (natural, ([]), refl, (((types.array_of 1 (var 0)) ∷ []), ((var 0), (lit≤ tt, lit≤ tt), refl, refl), (fits_within (types.array_of 1 (var 0)) refl), ((types.array_of 1 (var 0)), ([]), refl, refl, refl)), refl))), refl))))))

abbrev pub before_transpose : List Declaration
before_transpose = prelude.append ∷ before_append

pub transpose_has : DeclHas prelude.transpose (environment_of before_transpose) (macro (types.array_of 2 (var 0)) (types.array_of 2 (var 0)))
transpose_has = (((codes "a", (types.array_of 2 (var 0))) ∷ []), fits_within (types.array_of 2 (var 0)) refl, fits_within (types.array_of 2 (var 0)) refl, refl, ((var 0), (lit≤ tt, lit≤ tt), refl, (((types.product (type natural (type natural no_type))), ((fits_within (types.product (type natural (type natural no_type))) refl), (fits_within natural refl), (types_at (natural ∷ natural ∷ []), (macro (types.product (type (var 0) (type (var 1) no_type))) (var 1)), snd_has, refl)), (((types.array_of 2 (var 0)) ∷ []), ((var 0), (lit≤ tt, lit≤ tt), refl, refl), (fits_within (types.array_of 2 (var 0)) refl), ((types.array_of 2 (var 0)), ([]), refl, refl, refl))), (((types.product (type natural (type natural no_type))), ((fits_within (types.product (type natural (type natural no_type))) refl), (fits_within natural refl), (types_at (natural ∷ natural ∷ []), (macro (types.product (type (var 0) (type (var 1) no_type))) (var 0)), fst_has, refl)), (((types.array_of 2 (var 0)) ∷ []), ((var 0), (lit≤ tt, lit≤ tt), refl, refl), (fits_within (types.array_of 2 (var 0)) refl), ((types.array_of 2 (var 0)), ([]), refl, refl, refl))), tt)), (((types.array_of 2 (var 0)) ∷ natural ∷ natural ∷ []), (2, (lit≤ tt, lit≤ tt), refl), (fits_within (types.array_of 2 (var 0)) refl), ((types.array_of 2 (var 0)), (natural ∷ natural ∷ []), refl, refl, (natural, (natural ∷ []), refl, refl, (natural, ([]), refl, refl, refl))))))

abbrev pub before_zip : List Declaration
before_zip = prelude.transpose ∷ before_transpose

pub zip_has : DeclHas prelude.zip (environment_of before_zip) (macro (types.product (type (types.array_of 1 (var 0)) (type (types.array_of 1 (var 1)) no_type))) (types.array_of 1 (types.product (type (var 0) (type (var 1) no_type)))))
zip_has = (((codes "b", (types.array_of 1 (var 1))) ∷ (codes "a", (types.array_of 1 (var 0))) ∷ []), fits_within (types.product (type (types.array_of 1 (var 0)) (type (types.array_of 1 (var 1)) no_type))) refl, fits_within (types.array_of 1 (types.product (type (var 0) (type (var 1) no_type)))) refl, ((type (types.array_of 1 (var 0)) (type (types.array_of 1 (var 1)) no_type)), refl, ((types.array_of 1 (var 0)), (type (types.array_of 1 (var 1)) no_type), ((codes "a", (types.array_of 1 (var 0))) ∷ []), refl, refl, ((types.array_of 1 (var 1)), no_type, ((codes "b", (types.array_of 1 (var 1))) ∷ (codes "a", (types.array_of 1 (var 0))) ∷ []), refl, refl, (refl, refl)))), ((types.product (type (var 0) (type (var 1) no_type))), (lit≤ tt, lit≤ tt), refl, (((types.product (type natural (type natural no_type))), ((fits_within (types.product (type natural (type natural no_type))) refl), (fits_within natural refl), (types_at (natural ∷ []), (macro (types.product (type (var 0) (type (var 0) no_type))) (var 0)), min2_has, refl)), ((natural ∷ natural ∷ []), (lit≤ tt, refl), tt, (natural, (natural ∷ []), refl, (((types.array_of 1 (var 0)) ∷ []), ((var 0), (lit≤ tt, lit≤ tt), refl, refl), (fits_within (types.array_of 1 (var 0)) refl), ((types.array_of 1 (var 0)), ([]), refl, refl, refl)), (natural, ([]), refl, (((types.array_of 1 (var 1)) ∷ []), ((var 1), (lit≤ tt, lit≤ tt), refl, refl), (fits_within (types.array_of 1 (var 1)) refl), ((types.array_of 1 (var 1)), ([]), refl, refl, refl)), refl)))), tt), (((var 0) ∷ (var 1) ∷ []), (lit≤ tt, refl), tt, ((var 0), ((var 1) ∷ []), refl, (((types.array_of 1 (var 0)) ∷ natural ∷ []), (1, (lit≤ tt, lit≤ tt), refl), (fits_within (types.array_of 1 (var 0)) refl), ((types.array_of 1 (var 0)), (natural ∷ []), refl, refl, (natural, ([]), refl, refl, refl))), ((var 1), ([]), refl, (((types.array_of 1 (var 1)) ∷ natural ∷ []), (1, (lit≤ tt, lit≤ tt), refl), (fits_within (types.array_of 1 (var 1)) refl), ((types.array_of 1 (var 1)), (natural ∷ []), refl, refl, (natural, ([]), refl, refl, refl))), refl)))))

pub prelude_typed : PreludeIsTyped
prelude_typed = (
  (macro (types.product (type (var 0) (type (var 1) no_type))) (var 0), fst_has),
  (
    (macro (types.product (type (var 0) (type (var 1) no_type))) (var 1), snd_has),
    (
      (macro (types.set_of (var 0)) types.truth, isempty_has),
      (
        (macro (types.product (type (var 0) (type (types.set_of (var 0)) no_type))) types.truth, member_has),
        (
          (macro (types.set_of (var 0)) natural, count_has),
          (
            (macro (types.set_of natural) natural, total_has),
            (
              (macro (types.product (type (types.set_of (var 0)) (type (types.set_of (var 0)) no_type))) (types.set_of (var 0)), inter_has),
              (
                (macro (types.product (type (types.set_of (var 0)) (type (types.set_of (var 0)) no_type))) (types.set_of (var 0)), minus_has),
                (
                  (macro (types.product (type (types.set_of (var 0)) (type (types.set_of (var 0)) no_type))) types.truth, subset_has),
                  (
                    (macro (types.product (type (types.set_of (var 0)) (type (types.set_of (var 1)) no_type))) (types.set_of (types.product (type (var 0) (type (var 1) no_type)))), product_has),
                    (
                      (macro (types.set_of (types.set_of (var 0))) (types.set_of (var 0)), flatten_has),
                      (
                        (macro (types.set_of (var 0)) (var 0), least_has),
                        (
                          (macro (types.set_of (var 0)) (var 0), greatest_has),
                          (
                            (macro (types.product (type (var 0) (type (var 0) no_type))) (var 0), min2_has),
                            (
                              (macro (types.product (type (var 0) (type (var 0) no_type))) (var 0), max2_has),
                              (
                                (macro (types.product (type natural (type natural no_type))) (types.set_of natural), range_has),
                                (
                                  (macro (types.array_of 1 (var 0)) (types.set_of natural), domain_has),
                                  (
                                    (macro (types.array_of 1 (var 0)) (types.set_of (var 0)), cells_has),
                                    (
                                      (macro (types.array_of 1 (var 0)) (types.set_of (types.product (type natural (type (var 0) no_type)))), graph_has),
                                      (
                                        (macro (types.array_of 1 (var 0)) (types.array_of 1 (var 0)), reverse_has),
                                        (
                                          (macro (types.product (type (types.array_of 1 (var 0)) (type natural (type natural no_type)))) (types.array_of 1 (var 0)), subseq_has),
                                          (
                                            (macro (types.product (type (types.array_of 1 (var 0)) (type (types.array_of 1 (var 0)) no_type))) (types.array_of 1 (var 0)), append_has),
                                            (
                                              (macro (types.array_of 2 (var 0)) (types.array_of 2 (var 0)), transpose_has),
                                              (
                                                (macro (types.product (type (types.array_of 1 (var 0)) (type (types.array_of 1 (var 1)) no_type))) (types.array_of 1 (types.product (type (var 0) (type (var 1) no_type)))), zip_has),
                                                tt,
                                              ),
                                            ),
                                          ),
                                        ),
                                      ),
                                    ),
                                  ),
                                ),
                              ),
                            ),
                          ),
                        ),
                      ),
                    ),
                  ),
                ),
              ),
            ),
          ),
        ),
      ),
    ),
  ),
)
