-- The smallest made year, computed.
use Rattle.std.proofs.Common.{◌≡◌, ◌+◌, length, refl}
use Rattle.std.specs.Prelude.{codes}
use Rattle.std.specs.Fmt.{digits}
use Rattle.sut_generate.specs.Generator.{made_source, made_classes, drawn_rows, free_lines}

smallest-source : made_source 1 1 1 ≡ codes "kind,a,b,c,target,grade,lower,upper\nmake,P1,I1,,8838,,,\nimport,P1,,,758,,,\nbasic,P1,I1,,113,,,\nbasic,P1,F1,,1515,,,\nbasic,P1,F2,,1051,,,\nbasic,P1,F3,,1627,,,\ntax,X,P1,F1,10,,,\nservice,P1,T,,,,0,1000000000000\nadded,V1,I1,,,,-1000000000000,1000000000000\n"
unfolding digits made_source
smallest-source = refl

smallest-classes : made_classes 1 1 ≡ codes "axis,code,kind\nmargin,T,\nproduct,P1,T\nindustry,I1,\nfinal,F1,\nfinal,F2,\nfinal,F3,\nitem,V1,\ntax,X,\n"
unfolding digits made_classes
smallest-classes = refl

-- 3 products and 2 industries have 3 * (2 + 7) + 2 rows
twenty-nine-rows : length (drawn_rows 3 2) + length (free_lines 2) ≡ 29
twenty-nine-rows = refl
