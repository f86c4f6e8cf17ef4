-- The named entities of HTML: each name without its `&` and `;`, and the characters that it stands for. Written by
-- .ci/entities.
use Rattle.std.specs.Prelude.{List, [], ◌∷◌, codes}
use Rattle.markdown_entities.specs.EntityRow.{EntityRow}

-- all names, in groups by the first letter, in the order of ASCII
unfoldable pub entity_groups : List (List EntityRow)
entity_groups =
    (
    (codes "AElig", 0xc6 ∷ []) ∷ (codes "AMP", 0x26 ∷ []) ∷ (codes "Aacute", 0xc1 ∷ []) ∷ (codes "Abreve", 0x102 ∷ []) ∷
    (codes "Acirc", 0xc2 ∷ []) ∷ (codes "Acy", 0x410 ∷ []) ∷ (codes "Afr", 0x1d504 ∷ []) ∷ (codes "Agrave", 0xc0 ∷ []) ∷
    (codes "Alpha", 0x391 ∷ []) ∷ (codes "Amacr", 0x100 ∷ []) ∷ (codes "And", 0x2a53 ∷ []) ∷
    (codes "Aogon", 0x104 ∷ []) ∷ (codes "Aopf", 0x1d538 ∷ []) ∷ (codes "ApplyFunction", 0x2061 ∷ []) ∷
    (codes "Aring", 0xc5 ∷ []) ∷ (codes "Ascr", 0x1d49c ∷ []) ∷ (codes "Assign", 0x2254 ∷ []) ∷
    (codes "Atilde", 0xc3 ∷ []) ∷ (codes "Auml", 0xc4 ∷ []) ∷ [])
    ∷ (
    (codes "Backslash", 0x2216 ∷ []) ∷ (codes "Barv", 0x2ae7 ∷ []) ∷ (codes "Barwed", 0x2306 ∷ []) ∷
    (codes "Bcy", 0x411 ∷ []) ∷ (codes "Because", 0x2235 ∷ []) ∷ (codes "Bernoullis", 0x212c ∷ []) ∷
    (codes "Beta", 0x392 ∷ []) ∷ (codes "Bfr", 0x1d505 ∷ []) ∷ (codes "Bopf", 0x1d539 ∷ []) ∷
    (codes "Breve", 0x2d8 ∷ []) ∷ (codes "Bscr", 0x212c ∷ []) ∷ (codes "Bumpeq", 0x224e ∷ []) ∷ [])
    ∷ (
    (codes "CHcy", 0x427 ∷ []) ∷ (codes "COPY", 0xa9 ∷ []) ∷ (codes "Cacute", 0x106 ∷ []) ∷ (codes "Cap", 0x22d2 ∷ []) ∷
    (codes "CapitalDifferentialD", 0x2145 ∷ []) ∷ (codes "Cayleys", 0x212d ∷ []) ∷ (codes "Ccaron", 0x10c ∷ []) ∷
    (codes "Ccedil", 0xc7 ∷ []) ∷ (codes "Ccirc", 0x108 ∷ []) ∷ (codes "Cconint", 0x2230 ∷ []) ∷
    (codes "Cdot", 0x10a ∷ []) ∷ (codes "Cedilla", 0xb8 ∷ []) ∷ (codes "CenterDot", 0xb7 ∷ []) ∷
    (codes "Cfr", 0x212d ∷ []) ∷ (codes "Chi", 0x3a7 ∷ []) ∷ (codes "CircleDot", 0x2299 ∷ []) ∷
    (codes "CircleMinus", 0x2296 ∷ []) ∷ (codes "CirclePlus", 0x2295 ∷ []) ∷ (codes "CircleTimes", 0x2297 ∷ []) ∷
    (codes "ClockwiseContourIntegral", 0x2232 ∷ []) ∷ (codes "CloseCurlyDoubleQuote", 0x201d ∷ []) ∷
    (codes "CloseCurlyQuote", 0x2019 ∷ []) ∷ (codes "Colon", 0x2237 ∷ []) ∷ (codes "Colone", 0x2a74 ∷ []) ∷
    (codes "Congruent", 0x2261 ∷ []) ∷ (codes "Conint", 0x222f ∷ []) ∷ (codes "ContourIntegral", 0x222e ∷ []) ∷
    (codes "Copf", 0x2102 ∷ []) ∷ (codes "Coproduct", 0x2210 ∷ []) ∷
    (codes "CounterClockwiseContourIntegral", 0x2233 ∷ []) ∷ (codes "Cross", 0x2a2f ∷ []) ∷
    (codes "Cscr", 0x1d49e ∷ []) ∷ (codes "Cup", 0x22d3 ∷ []) ∷ (codes "CupCap", 0x224d ∷ []) ∷ [])
    ∷ (
    (codes "DD", 0x2145 ∷ []) ∷ (codes "DDotrahd", 0x2911 ∷ []) ∷ (codes "DJcy", 0x402 ∷ []) ∷
    (codes "DScy", 0x405 ∷ []) ∷ (codes "DZcy", 0x40f ∷ []) ∷ (codes "Dagger", 0x2021 ∷ []) ∷
    (codes "Darr", 0x21a1 ∷ []) ∷ (codes "Dashv", 0x2ae4 ∷ []) ∷ (codes "Dcaron", 0x10e ∷ []) ∷
    (codes "Dcy", 0x414 ∷ []) ∷ (codes "Del", 0x2207 ∷ []) ∷ (codes "Delta", 0x394 ∷ []) ∷ (codes "Dfr", 0x1d507 ∷ []) ∷
    (codes "DiacriticalAcute", 0xb4 ∷ []) ∷ (codes "DiacriticalDot", 0x2d9 ∷ []) ∷
    (codes "DiacriticalDoubleAcute", 0x2dd ∷ []) ∷ (codes "DiacriticalGrave", 0x60 ∷ []) ∷
    (codes "DiacriticalTilde", 0x2dc ∷ []) ∷ (codes "Diamond", 0x22c4 ∷ []) ∷ (codes "DifferentialD", 0x2146 ∷ []) ∷
    (codes "Dopf", 0x1d53b ∷ []) ∷ (codes "Dot", 0xa8 ∷ []) ∷ (codes "DotDot", 0x20dc ∷ []) ∷
    (codes "DotEqual", 0x2250 ∷ []) ∷ (codes "DoubleContourIntegral", 0x222f ∷ []) ∷ (codes "DoubleDot", 0xa8 ∷ []) ∷
    (codes "DoubleDownArrow", 0x21d3 ∷ []) ∷ (codes "DoubleLeftArrow", 0x21d0 ∷ []) ∷
    (codes "DoubleLeftRightArrow", 0x21d4 ∷ []) ∷ (codes "DoubleLeftTee", 0x2ae4 ∷ []) ∷
    (codes "DoubleLongLeftArrow", 0x27f8 ∷ []) ∷ (codes "DoubleLongLeftRightArrow", 0x27fa ∷ []) ∷
    (codes "DoubleLongRightArrow", 0x27f9 ∷ []) ∷ (codes "DoubleRightArrow", 0x21d2 ∷ []) ∷
    (codes "DoubleRightTee", 0x22a8 ∷ []) ∷ (codes "DoubleUpArrow", 0x21d1 ∷ []) ∷
    (codes "DoubleUpDownArrow", 0x21d5 ∷ []) ∷ (codes "DoubleVerticalBar", 0x2225 ∷ []) ∷
    (codes "DownArrow", 0x2193 ∷ []) ∷ (codes "DownArrowBar", 0x2913 ∷ []) ∷ (codes "DownArrowUpArrow", 0x21f5 ∷ []) ∷
    (codes "DownBreve", 0x311 ∷ []) ∷ (codes "DownLeftRightVector", 0x2950 ∷ []) ∷
    (codes "DownLeftTeeVector", 0x295e ∷ []) ∷ (codes "DownLeftVector", 0x21bd ∷ []) ∷
    (codes "DownLeftVectorBar", 0x2956 ∷ []) ∷ (codes "DownRightTeeVector", 0x295f ∷ []) ∷
    (codes "DownRightVector", 0x21c1 ∷ []) ∷ (codes "DownRightVectorBar", 0x2957 ∷ []) ∷
    (codes "DownTee", 0x22a4 ∷ []) ∷ (codes "DownTeeArrow", 0x21a7 ∷ []) ∷ (codes "Downarrow", 0x21d3 ∷ []) ∷
    (codes "Dscr", 0x1d49f ∷ []) ∷ (codes "Dstrok", 0x110 ∷ []) ∷ [])
    ∷ (
    (codes "ENG", 0x14a ∷ []) ∷ (codes "ETH", 0xd0 ∷ []) ∷ (codes "Eacute", 0xc9 ∷ []) ∷ (codes "Ecaron", 0x11a ∷ []) ∷
    (codes "Ecirc", 0xca ∷ []) ∷ (codes "Ecy", 0x42d ∷ []) ∷ (codes "Edot", 0x116 ∷ []) ∷ (codes "Efr", 0x1d508 ∷ []) ∷
    (codes "Egrave", 0xc8 ∷ []) ∷ (codes "Element", 0x2208 ∷ []) ∷ (codes "Emacr", 0x112 ∷ []) ∷
    (codes "EmptySmallSquare", 0x25fb ∷ []) ∷ (codes "EmptyVerySmallSquare", 0x25ab ∷ []) ∷
    (codes "Eogon", 0x118 ∷ []) ∷ (codes "Eopf", 0x1d53c ∷ []) ∷ (codes "Epsilon", 0x395 ∷ []) ∷
    (codes "Equal", 0x2a75 ∷ []) ∷ (codes "EqualTilde", 0x2242 ∷ []) ∷ (codes "Equilibrium", 0x21cc ∷ []) ∷
    (codes "Escr", 0x2130 ∷ []) ∷ (codes "Esim", 0x2a73 ∷ []) ∷ (codes "Eta", 0x397 ∷ []) ∷ (codes "Euml", 0xcb ∷ []) ∷
    (codes "Exists", 0x2203 ∷ []) ∷ (codes "ExponentialE", 0x2147 ∷ []) ∷ [])
    ∷ (
    (codes "Fcy", 0x424 ∷ []) ∷ (codes "Ffr", 0x1d509 ∷ []) ∷ (codes "FilledSmallSquare", 0x25fc ∷ []) ∷
    (codes "FilledVerySmallSquare", 0x25aa ∷ []) ∷ (codes "Fopf", 0x1d53d ∷ []) ∷ (codes "ForAll", 0x2200 ∷ []) ∷
    (codes "Fouriertrf", 0x2131 ∷ []) ∷ (codes "Fscr", 0x2131 ∷ []) ∷ [])
    ∷ (
    (codes "GJcy", 0x403 ∷ []) ∷ (codes "GT", 0x3e ∷ []) ∷ (codes "Gamma", 0x393 ∷ []) ∷ (codes "Gammad", 0x3dc ∷ []) ∷
    (codes "Gbreve", 0x11e ∷ []) ∷ (codes "Gcedil", 0x122 ∷ []) ∷ (codes "Gcirc", 0x11c ∷ []) ∷
    (codes "Gcy", 0x413 ∷ []) ∷ (codes "Gdot", 0x120 ∷ []) ∷ (codes "Gfr", 0x1d50a ∷ []) ∷ (codes "Gg", 0x22d9 ∷ []) ∷
    (codes "Gopf", 0x1d53e ∷ []) ∷ (codes "GreaterEqual", 0x2265 ∷ []) ∷ (codes "GreaterEqualLess", 0x22db ∷ []) ∷
    (codes "GreaterFullEqual", 0x2267 ∷ []) ∷ (codes "GreaterGreater", 0x2aa2 ∷ []) ∷
    (codes "GreaterLess", 0x2277 ∷ []) ∷ (codes "GreaterSlantEqual", 0x2a7e ∷ []) ∷
    (codes "GreaterTilde", 0x2273 ∷ []) ∷ (codes "Gscr", 0x1d4a2 ∷ []) ∷ (codes "Gt", 0x226b ∷ []) ∷ [])
    ∷ (
    (codes "HARDcy", 0x42a ∷ []) ∷ (codes "Hacek", 0x2c7 ∷ []) ∷ (codes "Hat", 0x5e ∷ []) ∷
    (codes "Hcirc", 0x124 ∷ []) ∷ (codes "Hfr", 0x210c ∷ []) ∷ (codes "HilbertSpace", 0x210b ∷ []) ∷
    (codes "Hopf", 0x210d ∷ []) ∷ (codes "HorizontalLine", 0x2500 ∷ []) ∷ (codes "Hscr", 0x210b ∷ []) ∷
    (codes "Hstrok", 0x126 ∷ []) ∷ (codes "HumpDownHump", 0x224e ∷ []) ∷ (codes "HumpEqual", 0x224f ∷ []) ∷ [])
    ∷ (
    (codes "IEcy", 0x415 ∷ []) ∷ (codes "IJlig", 0x132 ∷ []) ∷ (codes "IOcy", 0x401 ∷ []) ∷
    (codes "Iacute", 0xcd ∷ []) ∷ (codes "Icirc", 0xce ∷ []) ∷ (codes "Icy", 0x418 ∷ []) ∷ (codes "Idot", 0x130 ∷ []) ∷
    (codes "Ifr", 0x2111 ∷ []) ∷ (codes "Igrave", 0xcc ∷ []) ∷ (codes "Im", 0x2111 ∷ []) ∷ (codes "Imacr", 0x12a ∷ []) ∷
    (codes "ImaginaryI", 0x2148 ∷ []) ∷ (codes "Implies", 0x21d2 ∷ []) ∷ (codes "Int", 0x222c ∷ []) ∷
    (codes "Integral", 0x222b ∷ []) ∷ (codes "Intersection", 0x22c2 ∷ []) ∷ (codes "InvisibleComma", 0x2063 ∷ []) ∷
    (codes "InvisibleTimes", 0x2062 ∷ []) ∷ (codes "Iogon", 0x12e ∷ []) ∷ (codes "Iopf", 0x1d540 ∷ []) ∷
    (codes "Iota", 0x399 ∷ []) ∷ (codes "Iscr", 0x2110 ∷ []) ∷ (codes "Itilde", 0x128 ∷ []) ∷
    (codes "Iukcy", 0x406 ∷ []) ∷ (codes "Iuml", 0xcf ∷ []) ∷ [])
    ∷ (
    (codes "Jcirc", 0x134 ∷ []) ∷ (codes "Jcy", 0x419 ∷ []) ∷ (codes "Jfr", 0x1d50d ∷ []) ∷
    (codes "Jopf", 0x1d541 ∷ []) ∷ (codes "Jscr", 0x1d4a5 ∷ []) ∷ (codes "Jsercy", 0x408 ∷ []) ∷
    (codes "Jukcy", 0x404 ∷ []) ∷ [])
    ∷ (
    (codes "KHcy", 0x425 ∷ []) ∷ (codes "KJcy", 0x40c ∷ []) ∷ (codes "Kappa", 0x39a ∷ []) ∷
    (codes "Kcedil", 0x136 ∷ []) ∷ (codes "Kcy", 0x41a ∷ []) ∷ (codes "Kfr", 0x1d50e ∷ []) ∷
    (codes "Kopf", 0x1d542 ∷ []) ∷ (codes "Kscr", 0x1d4a6 ∷ []) ∷ [])
    ∷ (
    (codes "LJcy", 0x409 ∷ []) ∷ (codes "LT", 0x3c ∷ []) ∷ (codes "Lacute", 0x139 ∷ []) ∷ (codes "Lambda", 0x39b ∷ []) ∷
    (codes "Lang", 0x27ea ∷ []) ∷ (codes "Laplacetrf", 0x2112 ∷ []) ∷ (codes "Larr", 0x219e ∷ []) ∷
    (codes "Lcaron", 0x13d ∷ []) ∷ (codes "Lcedil", 0x13b ∷ []) ∷ (codes "Lcy", 0x41b ∷ []) ∷
    (codes "LeftAngleBracket", 0x27e8 ∷ []) ∷ (codes "LeftArrow", 0x2190 ∷ []) ∷ (codes "LeftArrowBar", 0x21e4 ∷ []) ∷
    (codes "LeftArrowRightArrow", 0x21c6 ∷ []) ∷ (codes "LeftCeiling", 0x2308 ∷ []) ∷
    (codes "LeftDoubleBracket", 0x27e6 ∷ []) ∷ (codes "LeftDownTeeVector", 0x2961 ∷ []) ∷
    (codes "LeftDownVector", 0x21c3 ∷ []) ∷ (codes "LeftDownVectorBar", 0x2959 ∷ []) ∷
    (codes "LeftFloor", 0x230a ∷ []) ∷ (codes "LeftRightArrow", 0x2194 ∷ []) ∷ (codes "LeftRightVector", 0x294e ∷ []) ∷
    (codes "LeftTee", 0x22a3 ∷ []) ∷ (codes "LeftTeeArrow", 0x21a4 ∷ []) ∷ (codes "LeftTeeVector", 0x295a ∷ []) ∷
    (codes "LeftTriangle", 0x22b2 ∷ []) ∷ (codes "LeftTriangleBar", 0x29cf ∷ []) ∷
    (codes "LeftTriangleEqual", 0x22b4 ∷ []) ∷ (codes "LeftUpDownVector", 0x2951 ∷ []) ∷
    (codes "LeftUpTeeVector", 0x2960 ∷ []) ∷ (codes "LeftUpVector", 0x21bf ∷ []) ∷
    (codes "LeftUpVectorBar", 0x2958 ∷ []) ∷ (codes "LeftVector", 0x21bc ∷ []) ∷ (codes "LeftVectorBar", 0x2952 ∷ []) ∷
    (codes "Leftarrow", 0x21d0 ∷ []) ∷ (codes "Leftrightarrow", 0x21d4 ∷ []) ∷ (codes "LessEqualGreater", 0x22da ∷ []) ∷
    (codes "LessFullEqual", 0x2266 ∷ []) ∷ (codes "LessGreater", 0x2276 ∷ []) ∷ (codes "LessLess", 0x2aa1 ∷ []) ∷
    (codes "LessSlantEqual", 0x2a7d ∷ []) ∷ (codes "LessTilde", 0x2272 ∷ []) ∷ (codes "Lfr", 0x1d50f ∷ []) ∷
    (codes "Ll", 0x22d8 ∷ []) ∷ (codes "Lleftarrow", 0x21da ∷ []) ∷ (codes "Lmidot", 0x13f ∷ []) ∷
    (codes "LongLeftArrow", 0x27f5 ∷ []) ∷ (codes "LongLeftRightArrow", 0x27f7 ∷ []) ∷
    (codes "LongRightArrow", 0x27f6 ∷ []) ∷ (codes "Longleftarrow", 0x27f8 ∷ []) ∷
    (codes "Longleftrightarrow", 0x27fa ∷ []) ∷ (codes "Longrightarrow", 0x27f9 ∷ []) ∷ (codes "Lopf", 0x1d543 ∷ []) ∷
    (codes "LowerLeftArrow", 0x2199 ∷ []) ∷ (codes "LowerRightArrow", 0x2198 ∷ []) ∷ (codes "Lscr", 0x2112 ∷ []) ∷
    (codes "Lsh", 0x21b0 ∷ []) ∷ (codes "Lstrok", 0x141 ∷ []) ∷ (codes "Lt", 0x226a ∷ []) ∷ [])
    ∷ (
    (codes "Map", 0x2905 ∷ []) ∷ (codes "Mcy", 0x41c ∷ []) ∷ (codes "MediumSpace", 0x205f ∷ []) ∷
    (codes "Mellintrf", 0x2133 ∷ []) ∷ (codes "Mfr", 0x1d510 ∷ []) ∷ (codes "MinusPlus", 0x2213 ∷ []) ∷
    (codes "Mopf", 0x1d544 ∷ []) ∷ (codes "Mscr", 0x2133 ∷ []) ∷ (codes "Mu", 0x39c ∷ []) ∷ [])
    ∷ (
    (codes "NJcy", 0x40a ∷ []) ∷ (codes "Nacute", 0x143 ∷ []) ∷ (codes "Ncaron", 0x147 ∷ []) ∷
    (codes "Ncedil", 0x145 ∷ []) ∷ (codes "Ncy", 0x41d ∷ []) ∷ (codes "NegativeMediumSpace", 0x200b ∷ []) ∷
    (codes "NegativeThickSpace", 0x200b ∷ []) ∷ (codes "NegativeThinSpace", 0x200b ∷ []) ∷
    (codes "NegativeVeryThinSpace", 0x200b ∷ []) ∷ (codes "NestedGreaterGreater", 0x226b ∷ []) ∷
    (codes "NestedLessLess", 0x226a ∷ []) ∷ (codes "NewLine", 0xa ∷ []) ∷ (codes "Nfr", 0x1d511 ∷ []) ∷
    (codes "NoBreak", 0x2060 ∷ []) ∷ (codes "NonBreakingSpace", 0xa0 ∷ []) ∷ (codes "Nopf", 0x2115 ∷ []) ∷
    (codes "Not", 0x2aec ∷ []) ∷ (codes "NotCongruent", 0x2262 ∷ []) ∷ (codes "NotCupCap", 0x226d ∷ []) ∷
    (codes "NotDoubleVerticalBar", 0x2226 ∷ []) ∷ (codes "NotElement", 0x2209 ∷ []) ∷ (codes "NotEqual", 0x2260 ∷ []) ∷
    (codes "NotEqualTilde", 0x2242 ∷ 0x338 ∷ []) ∷ (codes "NotExists", 0x2204 ∷ []) ∷
    (codes "NotGreater", 0x226f ∷ []) ∷ (codes "NotGreaterEqual", 0x2271 ∷ []) ∷
    (codes "NotGreaterFullEqual", 0x2267 ∷ 0x338 ∷ []) ∷ (codes "NotGreaterGreater", 0x226b ∷ 0x338 ∷ []) ∷
    (codes "NotGreaterLess", 0x2279 ∷ []) ∷ (codes "NotGreaterSlantEqual", 0x2a7e ∷ 0x338 ∷ []) ∷
    (codes "NotGreaterTilde", 0x2275 ∷ []) ∷ (codes "NotHumpDownHump", 0x224e ∷ 0x338 ∷ []) ∷
    (codes "NotHumpEqual", 0x224f ∷ 0x338 ∷ []) ∷ (codes "NotLeftTriangle", 0x22ea ∷ []) ∷
    (codes "NotLeftTriangleBar", 0x29cf ∷ 0x338 ∷ []) ∷ (codes "NotLeftTriangleEqual", 0x22ec ∷ []) ∷
    (codes "NotLess", 0x226e ∷ []) ∷ (codes "NotLessEqual", 0x2270 ∷ []) ∷ (codes "NotLessGreater", 0x2278 ∷ []) ∷
    (codes "NotLessLess", 0x226a ∷ 0x338 ∷ []) ∷ (codes "NotLessSlantEqual", 0x2a7d ∷ 0x338 ∷ []) ∷
    (codes "NotLessTilde", 0x2274 ∷ []) ∷ (codes "NotNestedGreaterGreater", 0x2aa2 ∷ 0x338 ∷ []) ∷
    (codes "NotNestedLessLess", 0x2aa1 ∷ 0x338 ∷ []) ∷ (codes "NotPrecedes", 0x2280 ∷ []) ∷
    (codes "NotPrecedesEqual", 0x2aaf ∷ 0x338 ∷ []) ∷ (codes "NotPrecedesSlantEqual", 0x22e0 ∷ []) ∷
    (codes "NotReverseElement", 0x220c ∷ []) ∷ (codes "NotRightTriangle", 0x22eb ∷ []) ∷
    (codes "NotRightTriangleBar", 0x29d0 ∷ 0x338 ∷ []) ∷ (codes "NotRightTriangleEqual", 0x22ed ∷ []) ∷
    (codes "NotSquareSubset", 0x228f ∷ 0x338 ∷ []) ∷ (codes "NotSquareSubsetEqual", 0x22e2 ∷ []) ∷
    (codes "NotSquareSuperset", 0x2290 ∷ 0x338 ∷ []) ∷ (codes "NotSquareSupersetEqual", 0x22e3 ∷ []) ∷
    (codes "NotSubset", 0x2282 ∷ 0x20d2 ∷ []) ∷ (codes "NotSubsetEqual", 0x2288 ∷ []) ∷
    (codes "NotSucceeds", 0x2281 ∷ []) ∷ (codes "NotSucceedsEqual", 0x2ab0 ∷ 0x338 ∷ []) ∷
    (codes "NotSucceedsSlantEqual", 0x22e1 ∷ []) ∷ (codes "NotSucceedsTilde", 0x227f ∷ 0x338 ∷ []) ∷
    (codes "NotSuperset", 0x2283 ∷ 0x20d2 ∷ []) ∷ (codes "NotSupersetEqual", 0x2289 ∷ []) ∷
    (codes "NotTilde", 0x2241 ∷ []) ∷ (codes "NotTildeEqual", 0x2244 ∷ []) ∷ (codes "NotTildeFullEqual", 0x2247 ∷ []) ∷
    (codes "NotTildeTilde", 0x2249 ∷ []) ∷ (codes "NotVerticalBar", 0x2224 ∷ []) ∷ (codes "Nscr", 0x1d4a9 ∷ []) ∷
    (codes "Ntilde", 0xd1 ∷ []) ∷ (codes "Nu", 0x39d ∷ []) ∷ [])
    ∷ (
    (codes "OElig", 0x152 ∷ []) ∷ (codes "Oacute", 0xd3 ∷ []) ∷ (codes "Ocirc", 0xd4 ∷ []) ∷ (codes "Ocy", 0x41e ∷ []) ∷
    (codes "Odblac", 0x150 ∷ []) ∷ (codes "Ofr", 0x1d512 ∷ []) ∷ (codes "Ograve", 0xd2 ∷ []) ∷
    (codes "Omacr", 0x14c ∷ []) ∷ (codes "Omega", 0x3a9 ∷ []) ∷ (codes "Omicron", 0x39f ∷ []) ∷
    (codes "Oopf", 0x1d546 ∷ []) ∷ (codes "OpenCurlyDoubleQuote", 0x201c ∷ []) ∷ (codes "OpenCurlyQuote", 0x2018 ∷ []) ∷
    (codes "Or", 0x2a54 ∷ []) ∷ (codes "Oscr", 0x1d4aa ∷ []) ∷ (codes "Oslash", 0xd8 ∷ []) ∷
    (codes "Otilde", 0xd5 ∷ []) ∷ (codes "Otimes", 0x2a37 ∷ []) ∷ (codes "Ouml", 0xd6 ∷ []) ∷
    (codes "OverBar", 0x203e ∷ []) ∷ (codes "OverBrace", 0x23de ∷ []) ∷ (codes "OverBracket", 0x23b4 ∷ []) ∷
    (codes "OverParenthesis", 0x23dc ∷ []) ∷ [])
    ∷ (
    (codes "PartialD", 0x2202 ∷ []) ∷ (codes "Pcy", 0x41f ∷ []) ∷ (codes "Pfr", 0x1d513 ∷ []) ∷
    (codes "Phi", 0x3a6 ∷ []) ∷ (codes "Pi", 0x3a0 ∷ []) ∷ (codes "PlusMinus", 0xb1 ∷ []) ∷
    (codes "Poincareplane", 0x210c ∷ []) ∷ (codes "Popf", 0x2119 ∷ []) ∷ (codes "Pr", 0x2abb ∷ []) ∷
    (codes "Precedes", 0x227a ∷ []) ∷ (codes "PrecedesEqual", 0x2aaf ∷ []) ∷ (codes "PrecedesSlantEqual", 0x227c ∷ []) ∷
    (codes "PrecedesTilde", 0x227e ∷ []) ∷ (codes "Prime", 0x2033 ∷ []) ∷ (codes "Product", 0x220f ∷ []) ∷
    (codes "Proportion", 0x2237 ∷ []) ∷ (codes "Proportional", 0x221d ∷ []) ∷ (codes "Pscr", 0x1d4ab ∷ []) ∷
    (codes "Psi", 0x3a8 ∷ []) ∷ [])
    ∷ (
    (codes "QUOT", 0x22 ∷ []) ∷ (codes "Qfr", 0x1d514 ∷ []) ∷ (codes "Qopf", 0x211a ∷ []) ∷
    (codes "Qscr", 0x1d4ac ∷ []) ∷ [])
    ∷ (
    (codes "RBarr", 0x2910 ∷ []) ∷ (codes "REG", 0xae ∷ []) ∷ (codes "Racute", 0x154 ∷ []) ∷
    (codes "Rang", 0x27eb ∷ []) ∷ (codes "Rarr", 0x21a0 ∷ []) ∷ (codes "Rarrtl", 0x2916 ∷ []) ∷
    (codes "Rcaron", 0x158 ∷ []) ∷ (codes "Rcedil", 0x156 ∷ []) ∷ (codes "Rcy", 0x420 ∷ []) ∷
    (codes "Re", 0x211c ∷ []) ∷ (codes "ReverseElement", 0x220b ∷ []) ∷ (codes "ReverseEquilibrium", 0x21cb ∷ []) ∷
    (codes "ReverseUpEquilibrium", 0x296f ∷ []) ∷ (codes "Rfr", 0x211c ∷ []) ∷ (codes "Rho", 0x3a1 ∷ []) ∷
    (codes "RightAngleBracket", 0x27e9 ∷ []) ∷ (codes "RightArrow", 0x2192 ∷ []) ∷
    (codes "RightArrowBar", 0x21e5 ∷ []) ∷ (codes "RightArrowLeftArrow", 0x21c4 ∷ []) ∷
    (codes "RightCeiling", 0x2309 ∷ []) ∷ (codes "RightDoubleBracket", 0x27e7 ∷ []) ∷
    (codes "RightDownTeeVector", 0x295d ∷ []) ∷ (codes "RightDownVector", 0x21c2 ∷ []) ∷
    (codes "RightDownVectorBar", 0x2955 ∷ []) ∷ (codes "RightFloor", 0x230b ∷ []) ∷ (codes "RightTee", 0x22a2 ∷ []) ∷
    (codes "RightTeeArrow", 0x21a6 ∷ []) ∷ (codes "RightTeeVector", 0x295b ∷ []) ∷
    (codes "RightTriangle", 0x22b3 ∷ []) ∷ (codes "RightTriangleBar", 0x29d0 ∷ []) ∷
    (codes "RightTriangleEqual", 0x22b5 ∷ []) ∷ (codes "RightUpDownVector", 0x294f ∷ []) ∷
    (codes "RightUpTeeVector", 0x295c ∷ []) ∷ (codes "RightUpVector", 0x21be ∷ []) ∷
    (codes "RightUpVectorBar", 0x2954 ∷ []) ∷ (codes "RightVector", 0x21c0 ∷ []) ∷
    (codes "RightVectorBar", 0x2953 ∷ []) ∷ (codes "Rightarrow", 0x21d2 ∷ []) ∷ (codes "Ropf", 0x211d ∷ []) ∷
    (codes "RoundImplies", 0x2970 ∷ []) ∷ (codes "Rrightarrow", 0x21db ∷ []) ∷ (codes "Rscr", 0x211b ∷ []) ∷
    (codes "Rsh", 0x21b1 ∷ []) ∷ (codes "RuleDelayed", 0x29f4 ∷ []) ∷ [])
    ∷ (
    (codes "SHCHcy", 0x429 ∷ []) ∷ (codes "SHcy", 0x428 ∷ []) ∷ (codes "SOFTcy", 0x42c ∷ []) ∷
    (codes "Sacute", 0x15a ∷ []) ∷ (codes "Sc", 0x2abc ∷ []) ∷ (codes "Scaron", 0x160 ∷ []) ∷
    (codes "Scedil", 0x15e ∷ []) ∷ (codes "Scirc", 0x15c ∷ []) ∷ (codes "Scy", 0x421 ∷ []) ∷
    (codes "Sfr", 0x1d516 ∷ []) ∷ (codes "ShortDownArrow", 0x2193 ∷ []) ∷ (codes "ShortLeftArrow", 0x2190 ∷ []) ∷
    (codes "ShortRightArrow", 0x2192 ∷ []) ∷ (codes "ShortUpArrow", 0x2191 ∷ []) ∷ (codes "Sigma", 0x3a3 ∷ []) ∷
    (codes "SmallCircle", 0x2218 ∷ []) ∷ (codes "Sopf", 0x1d54a ∷ []) ∷ (codes "Sqrt", 0x221a ∷ []) ∷
    (codes "Square", 0x25a1 ∷ []) ∷ (codes "SquareIntersection", 0x2293 ∷ []) ∷ (codes "SquareSubset", 0x228f ∷ []) ∷
    (codes "SquareSubsetEqual", 0x2291 ∷ []) ∷ (codes "SquareSuperset", 0x2290 ∷ []) ∷
    (codes "SquareSupersetEqual", 0x2292 ∷ []) ∷ (codes "SquareUnion", 0x2294 ∷ []) ∷ (codes "Sscr", 0x1d4ae ∷ []) ∷
    (codes "Star", 0x22c6 ∷ []) ∷ (codes "Sub", 0x22d0 ∷ []) ∷ (codes "Subset", 0x22d0 ∷ []) ∷
    (codes "SubsetEqual", 0x2286 ∷ []) ∷ (codes "Succeeds", 0x227b ∷ []) ∷ (codes "SucceedsEqual", 0x2ab0 ∷ []) ∷
    (codes "SucceedsSlantEqual", 0x227d ∷ []) ∷ (codes "SucceedsTilde", 0x227f ∷ []) ∷ (codes "SuchThat", 0x220b ∷ []) ∷
    (codes "Sum", 0x2211 ∷ []) ∷ (codes "Sup", 0x22d1 ∷ []) ∷ (codes "Superset", 0x2283 ∷ []) ∷
    (codes "SupersetEqual", 0x2287 ∷ []) ∷ (codes "Supset", 0x22d1 ∷ []) ∷ [])
    ∷ (
    (codes "THORN", 0xde ∷ []) ∷ (codes "TRADE", 0x2122 ∷ []) ∷ (codes "TSHcy", 0x40b ∷ []) ∷
    (codes "TScy", 0x426 ∷ []) ∷ (codes "Tab", 0x9 ∷ []) ∷ (codes "Tau", 0x3a4 ∷ []) ∷ (codes "Tcaron", 0x164 ∷ []) ∷
    (codes "Tcedil", 0x162 ∷ []) ∷ (codes "Tcy", 0x422 ∷ []) ∷ (codes "Tfr", 0x1d517 ∷ []) ∷
    (codes "Therefore", 0x2234 ∷ []) ∷ (codes "Theta", 0x398 ∷ []) ∷ (codes "ThickSpace", 0x205f ∷ 0x200a ∷ []) ∷
    (codes "ThinSpace", 0x2009 ∷ []) ∷ (codes "Tilde", 0x223c ∷ []) ∷ (codes "TildeEqual", 0x2243 ∷ []) ∷
    (codes "TildeFullEqual", 0x2245 ∷ []) ∷ (codes "TildeTilde", 0x2248 ∷ []) ∷ (codes "Topf", 0x1d54b ∷ []) ∷
    (codes "TripleDot", 0x20db ∷ []) ∷ (codes "Tscr", 0x1d4af ∷ []) ∷ (codes "Tstrok", 0x166 ∷ []) ∷ [])
    ∷ (
    (codes "Uacute", 0xda ∷ []) ∷ (codes "Uarr", 0x219f ∷ []) ∷ (codes "Uarrocir", 0x2949 ∷ []) ∷
    (codes "Ubrcy", 0x40e ∷ []) ∷ (codes "Ubreve", 0x16c ∷ []) ∷ (codes "Ucirc", 0xdb ∷ []) ∷
    (codes "Ucy", 0x423 ∷ []) ∷ (codes "Udblac", 0x170 ∷ []) ∷ (codes "Ufr", 0x1d518 ∷ []) ∷
    (codes "Ugrave", 0xd9 ∷ []) ∷ (codes "Umacr", 0x16a ∷ []) ∷ (codes "UnderBar", 0x5f ∷ []) ∷
    (codes "UnderBrace", 0x23df ∷ []) ∷ (codes "UnderBracket", 0x23b5 ∷ []) ∷ (codes "UnderParenthesis", 0x23dd ∷ []) ∷
    (codes "Union", 0x22c3 ∷ []) ∷ (codes "UnionPlus", 0x228e ∷ []) ∷ (codes "Uogon", 0x172 ∷ []) ∷
    (codes "Uopf", 0x1d54c ∷ []) ∷ (codes "UpArrow", 0x2191 ∷ []) ∷ (codes "UpArrowBar", 0x2912 ∷ []) ∷
    (codes "UpArrowDownArrow", 0x21c5 ∷ []) ∷ (codes "UpDownArrow", 0x2195 ∷ []) ∷
    (codes "UpEquilibrium", 0x296e ∷ []) ∷ (codes "UpTee", 0x22a5 ∷ []) ∷ (codes "UpTeeArrow", 0x21a5 ∷ []) ∷
    (codes "Uparrow", 0x21d1 ∷ []) ∷ (codes "Updownarrow", 0x21d5 ∷ []) ∷ (codes "UpperLeftArrow", 0x2196 ∷ []) ∷
    (codes "UpperRightArrow", 0x2197 ∷ []) ∷ (codes "Upsi", 0x3d2 ∷ []) ∷ (codes "Upsilon", 0x3a5 ∷ []) ∷
    (codes "Uring", 0x16e ∷ []) ∷ (codes "Uscr", 0x1d4b0 ∷ []) ∷ (codes "Utilde", 0x168 ∷ []) ∷
    (codes "Uuml", 0xdc ∷ []) ∷ [])
    ∷ (
    (codes "VDash", 0x22ab ∷ []) ∷ (codes "Vbar", 0x2aeb ∷ []) ∷ (codes "Vcy", 0x412 ∷ []) ∷
    (codes "Vdash", 0x22a9 ∷ []) ∷ (codes "Vdashl", 0x2ae6 ∷ []) ∷ (codes "Vee", 0x22c1 ∷ []) ∷
    (codes "Verbar", 0x2016 ∷ []) ∷ (codes "Vert", 0x2016 ∷ []) ∷ (codes "VerticalBar", 0x2223 ∷ []) ∷
    (codes "VerticalLine", 0x7c ∷ []) ∷ (codes "VerticalSeparator", 0x2758 ∷ []) ∷
    (codes "VerticalTilde", 0x2240 ∷ []) ∷ (codes "VeryThinSpace", 0x200a ∷ []) ∷ (codes "Vfr", 0x1d519 ∷ []) ∷
    (codes "Vopf", 0x1d54d ∷ []) ∷ (codes "Vscr", 0x1d4b1 ∷ []) ∷ (codes "Vvdash", 0x22aa ∷ []) ∷ [])
    ∷ (
    (codes "Wcirc", 0x174 ∷ []) ∷ (codes "Wedge", 0x22c0 ∷ []) ∷ (codes "Wfr", 0x1d51a ∷ []) ∷
    (codes "Wopf", 0x1d54e ∷ []) ∷ (codes "Wscr", 0x1d4b2 ∷ []) ∷ [])
    ∷ (
    (codes "Xfr", 0x1d51b ∷ []) ∷ (codes "Xi", 0x39e ∷ []) ∷ (codes "Xopf", 0x1d54f ∷ []) ∷
    (codes "Xscr", 0x1d4b3 ∷ []) ∷ [])
    ∷ (
    (codes "YAcy", 0x42f ∷ []) ∷ (codes "YIcy", 0x407 ∷ []) ∷ (codes "YUcy", 0x42e ∷ []) ∷ (codes "Yacute", 0xdd ∷ []) ∷
    (codes "Ycirc", 0x176 ∷ []) ∷ (codes "Ycy", 0x42b ∷ []) ∷ (codes "Yfr", 0x1d51c ∷ []) ∷
    (codes "Yopf", 0x1d550 ∷ []) ∷ (codes "Yscr", 0x1d4b4 ∷ []) ∷ (codes "Yuml", 0x178 ∷ []) ∷ [])
    ∷ (
    (codes "ZHcy", 0x416 ∷ []) ∷ (codes "Zacute", 0x179 ∷ []) ∷ (codes "Zcaron", 0x17d ∷ []) ∷
    (codes "Zcy", 0x417 ∷ []) ∷ (codes "Zdot", 0x17b ∷ []) ∷ (codes "ZeroWidthSpace", 0x200b ∷ []) ∷
    (codes "Zeta", 0x396 ∷ []) ∷ (codes "Zfr", 0x2128 ∷ []) ∷ (codes "Zopf", 0x2124 ∷ []) ∷
    (codes "Zscr", 0x1d4b5 ∷ []) ∷ [])
    ∷ (
    (codes "aacute", 0xe1 ∷ []) ∷ (codes "abreve", 0x103 ∷ []) ∷ (codes "ac", 0x223e ∷ []) ∷
    (codes "acE", 0x223e ∷ 0x333 ∷ []) ∷ (codes "acd", 0x223f ∷ []) ∷ (codes "acirc", 0xe2 ∷ []) ∷
    (codes "acute", 0xb4 ∷ []) ∷ (codes "acy", 0x430 ∷ []) ∷ (codes "aelig", 0xe6 ∷ []) ∷ (codes "af", 0x2061 ∷ []) ∷
    (codes "afr", 0x1d51e ∷ []) ∷ (codes "agrave", 0xe0 ∷ []) ∷ (codes "alefsym", 0x2135 ∷ []) ∷
    (codes "aleph", 0x2135 ∷ []) ∷ (codes "alpha", 0x3b1 ∷ []) ∷ (codes "amacr", 0x101 ∷ []) ∷
    (codes "amalg", 0x2a3f ∷ []) ∷ (codes "amp", 0x26 ∷ []) ∷ (codes "and", 0x2227 ∷ []) ∷
    (codes "andand", 0x2a55 ∷ []) ∷ (codes "andd", 0x2a5c ∷ []) ∷ (codes "andslope", 0x2a58 ∷ []) ∷
    (codes "andv", 0x2a5a ∷ []) ∷ (codes "ang", 0x2220 ∷ []) ∷ (codes "ange", 0x29a4 ∷ []) ∷
    (codes "angle", 0x2220 ∷ []) ∷ (codes "angmsd", 0x2221 ∷ []) ∷ (codes "angmsdaa", 0x29a8 ∷ []) ∷
    (codes "angmsdab", 0x29a9 ∷ []) ∷ (codes "angmsdac", 0x29aa ∷ []) ∷ (codes "angmsdad", 0x29ab ∷ []) ∷
    (codes "angmsdae", 0x29ac ∷ []) ∷ (codes "angmsdaf", 0x29ad ∷ []) ∷ (codes "angmsdag", 0x29ae ∷ []) ∷
    (codes "angmsdah", 0x29af ∷ []) ∷ (codes "angrt", 0x221f ∷ []) ∷ (codes "angrtvb", 0x22be ∷ []) ∷
    (codes "angrtvbd", 0x299d ∷ []) ∷ (codes "angsph", 0x2222 ∷ []) ∷ (codes "angst", 0xc5 ∷ []) ∷
    (codes "angzarr", 0x237c ∷ []) ∷ (codes "aogon", 0x105 ∷ []) ∷ (codes "aopf", 0x1d552 ∷ []) ∷
    (codes "ap", 0x2248 ∷ []) ∷ (codes "apE", 0x2a70 ∷ []) ∷ (codes "apacir", 0x2a6f ∷ []) ∷
    (codes "ape", 0x224a ∷ []) ∷ (codes "apid", 0x224b ∷ []) ∷ (codes "apos", 0x27 ∷ []) ∷
    (codes "approx", 0x2248 ∷ []) ∷ (codes "approxeq", 0x224a ∷ []) ∷ (codes "aring", 0xe5 ∷ []) ∷
    (codes "ascr", 0x1d4b6 ∷ []) ∷ (codes "ast", 0x2a ∷ []) ∷ (codes "asymp", 0x2248 ∷ []) ∷
    (codes "asympeq", 0x224d ∷ []) ∷ (codes "atilde", 0xe3 ∷ []) ∷ (codes "auml", 0xe4 ∷ []) ∷
    (codes "awconint", 0x2233 ∷ []) ∷ (codes "awint", 0x2a11 ∷ []) ∷ [])
    ∷ (
    (codes "bNot", 0x2aed ∷ []) ∷ (codes "backcong", 0x224c ∷ []) ∷ (codes "backepsilon", 0x3f6 ∷ []) ∷
    (codes "backprime", 0x2035 ∷ []) ∷ (codes "backsim", 0x223d ∷ []) ∷ (codes "backsimeq", 0x22cd ∷ []) ∷
    (codes "barvee", 0x22bd ∷ []) ∷ (codes "barwed", 0x2305 ∷ []) ∷ (codes "barwedge", 0x2305 ∷ []) ∷
    (codes "bbrk", 0x23b5 ∷ []) ∷ (codes "bbrktbrk", 0x23b6 ∷ []) ∷ (codes "bcong", 0x224c ∷ []) ∷
    (codes "bcy", 0x431 ∷ []) ∷ (codes "bdquo", 0x201e ∷ []) ∷ (codes "becaus", 0x2235 ∷ []) ∷
    (codes "because", 0x2235 ∷ []) ∷ (codes "bemptyv", 0x29b0 ∷ []) ∷ (codes "bepsi", 0x3f6 ∷ []) ∷
    (codes "bernou", 0x212c ∷ []) ∷ (codes "beta", 0x3b2 ∷ []) ∷ (codes "beth", 0x2136 ∷ []) ∷
    (codes "between", 0x226c ∷ []) ∷ (codes "bfr", 0x1d51f ∷ []) ∷ (codes "bigcap", 0x22c2 ∷ []) ∷
    (codes "bigcirc", 0x25ef ∷ []) ∷ (codes "bigcup", 0x22c3 ∷ []) ∷ (codes "bigodot", 0x2a00 ∷ []) ∷
    (codes "bigoplus", 0x2a01 ∷ []) ∷ (codes "bigotimes", 0x2a02 ∷ []) ∷ (codes "bigsqcup", 0x2a06 ∷ []) ∷
    (codes "bigstar", 0x2605 ∷ []) ∷ (codes "bigtriangledown", 0x25bd ∷ []) ∷ (codes "bigtriangleup", 0x25b3 ∷ []) ∷
    (codes "biguplus", 0x2a04 ∷ []) ∷ (codes "bigvee", 0x22c1 ∷ []) ∷ (codes "bigwedge", 0x22c0 ∷ []) ∷
    (codes "bkarow", 0x290d ∷ []) ∷ (codes "blacklozenge", 0x29eb ∷ []) ∷ (codes "blacksquare", 0x25aa ∷ []) ∷
    (codes "blacktriangle", 0x25b4 ∷ []) ∷ (codes "blacktriangledown", 0x25be ∷ []) ∷
    (codes "blacktriangleleft", 0x25c2 ∷ []) ∷ (codes "blacktriangleright", 0x25b8 ∷ []) ∷
    (codes "blank", 0x2423 ∷ []) ∷ (codes "blk12", 0x2592 ∷ []) ∷ (codes "blk14", 0x2591 ∷ []) ∷
    (codes "blk34", 0x2593 ∷ []) ∷ (codes "block", 0x2588 ∷ []) ∷ (codes "bne", 0x3d ∷ 0x20e5 ∷ []) ∷
    (codes "bnequiv", 0x2261 ∷ 0x20e5 ∷ []) ∷ (codes "bnot", 0x2310 ∷ []) ∷ (codes "bopf", 0x1d553 ∷ []) ∷
    (codes "bot", 0x22a5 ∷ []) ∷ (codes "bottom", 0x22a5 ∷ []) ∷ (codes "bowtie", 0x22c8 ∷ []) ∷
    (codes "boxDL", 0x2557 ∷ []) ∷ (codes "boxDR", 0x2554 ∷ []) ∷ (codes "boxDl", 0x2556 ∷ []) ∷
    (codes "boxDr", 0x2553 ∷ []) ∷ (codes "boxH", 0x2550 ∷ []) ∷ (codes "boxHD", 0x2566 ∷ []) ∷
    (codes "boxHU", 0x2569 ∷ []) ∷ (codes "boxHd", 0x2564 ∷ []) ∷ (codes "boxHu", 0x2567 ∷ []) ∷
    (codes "boxUL", 0x255d ∷ []) ∷ (codes "boxUR", 0x255a ∷ []) ∷ (codes "boxUl", 0x255c ∷ []) ∷
    (codes "boxUr", 0x2559 ∷ []) ∷ (codes "boxV", 0x2551 ∷ []) ∷ (codes "boxVH", 0x256c ∷ []) ∷
    (codes "boxVL", 0x2563 ∷ []) ∷ (codes "boxVR", 0x2560 ∷ []) ∷ (codes "boxVh", 0x256b ∷ []) ∷
    (codes "boxVl", 0x2562 ∷ []) ∷ (codes "boxVr", 0x255f ∷ []) ∷ (codes "boxbox", 0x29c9 ∷ []) ∷
    (codes "boxdL", 0x2555 ∷ []) ∷ (codes "boxdR", 0x2552 ∷ []) ∷ (codes "boxdl", 0x2510 ∷ []) ∷
    (codes "boxdr", 0x250c ∷ []) ∷ (codes "boxh", 0x2500 ∷ []) ∷ (codes "boxhD", 0x2565 ∷ []) ∷
    (codes "boxhU", 0x2568 ∷ []) ∷ (codes "boxhd", 0x252c ∷ []) ∷ (codes "boxhu", 0x2534 ∷ []) ∷
    (codes "boxminus", 0x229f ∷ []) ∷ (codes "boxplus", 0x229e ∷ []) ∷ (codes "boxtimes", 0x22a0 ∷ []) ∷
    (codes "boxuL", 0x255b ∷ []) ∷ (codes "boxuR", 0x2558 ∷ []) ∷ (codes "boxul", 0x2518 ∷ []) ∷
    (codes "boxur", 0x2514 ∷ []) ∷ (codes "boxv", 0x2502 ∷ []) ∷ (codes "boxvH", 0x256a ∷ []) ∷
    (codes "boxvL", 0x2561 ∷ []) ∷ (codes "boxvR", 0x255e ∷ []) ∷ (codes "boxvh", 0x253c ∷ []) ∷
    (codes "boxvl", 0x2524 ∷ []) ∷ (codes "boxvr", 0x251c ∷ []) ∷ (codes "bprime", 0x2035 ∷ []) ∷
    (codes "breve", 0x2d8 ∷ []) ∷ (codes "brvbar", 0xa6 ∷ []) ∷ (codes "bscr", 0x1d4b7 ∷ []) ∷
    (codes "bsemi", 0x204f ∷ []) ∷ (codes "bsim", 0x223d ∷ []) ∷ (codes "bsime", 0x22cd ∷ []) ∷
    (codes "bsol", 0x5c ∷ []) ∷ (codes "bsolb", 0x29c5 ∷ []) ∷ (codes "bsolhsub", 0x27c8 ∷ []) ∷
    (codes "bull", 0x2022 ∷ []) ∷ (codes "bullet", 0x2022 ∷ []) ∷ (codes "bump", 0x224e ∷ []) ∷
    (codes "bumpE", 0x2aae ∷ []) ∷ (codes "bumpe", 0x224f ∷ []) ∷ (codes "bumpeq", 0x224f ∷ []) ∷ [])
    ∷ (
    (codes "cacute", 0x107 ∷ []) ∷ (codes "cap", 0x2229 ∷ []) ∷ (codes "capand", 0x2a44 ∷ []) ∷
    (codes "capbrcup", 0x2a49 ∷ []) ∷ (codes "capcap", 0x2a4b ∷ []) ∷ (codes "capcup", 0x2a47 ∷ []) ∷
    (codes "capdot", 0x2a40 ∷ []) ∷ (codes "caps", 0x2229 ∷ 0xfe00 ∷ []) ∷ (codes "caret", 0x2041 ∷ []) ∷
    (codes "caron", 0x2c7 ∷ []) ∷ (codes "ccaps", 0x2a4d ∷ []) ∷ (codes "ccaron", 0x10d ∷ []) ∷
    (codes "ccedil", 0xe7 ∷ []) ∷ (codes "ccirc", 0x109 ∷ []) ∷ (codes "ccups", 0x2a4c ∷ []) ∷
    (codes "ccupssm", 0x2a50 ∷ []) ∷ (codes "cdot", 0x10b ∷ []) ∷ (codes "cedil", 0xb8 ∷ []) ∷
    (codes "cemptyv", 0x29b2 ∷ []) ∷ (codes "cent", 0xa2 ∷ []) ∷ (codes "centerdot", 0xb7 ∷ []) ∷
    (codes "cfr", 0x1d520 ∷ []) ∷ (codes "chcy", 0x447 ∷ []) ∷ (codes "check", 0x2713 ∷ []) ∷
    (codes "checkmark", 0x2713 ∷ []) ∷ (codes "chi", 0x3c7 ∷ []) ∷ (codes "cir", 0x25cb ∷ []) ∷
    (codes "cirE", 0x29c3 ∷ []) ∷ (codes "circ", 0x2c6 ∷ []) ∷ (codes "circeq", 0x2257 ∷ []) ∷
    (codes "circlearrowleft", 0x21ba ∷ []) ∷ (codes "circlearrowright", 0x21bb ∷ []) ∷ (codes "circledR", 0xae ∷ []) ∷
    (codes "circledS", 0x24c8 ∷ []) ∷ (codes "circledast", 0x229b ∷ []) ∷ (codes "circledcirc", 0x229a ∷ []) ∷
    (codes "circleddash", 0x229d ∷ []) ∷ (codes "cire", 0x2257 ∷ []) ∷ (codes "cirfnint", 0x2a10 ∷ []) ∷
    (codes "cirmid", 0x2aef ∷ []) ∷ (codes "cirscir", 0x29c2 ∷ []) ∷ (codes "clubs", 0x2663 ∷ []) ∷
    (codes "clubsuit", 0x2663 ∷ []) ∷ (codes "colon", 0x3a ∷ []) ∷ (codes "colone", 0x2254 ∷ []) ∷
    (codes "coloneq", 0x2254 ∷ []) ∷ (codes "comma", 0x2c ∷ []) ∷ (codes "commat", 0x40 ∷ []) ∷
    (codes "comp", 0x2201 ∷ []) ∷ (codes "compfn", 0x2218 ∷ []) ∷ (codes "complement", 0x2201 ∷ []) ∷
    (codes "complexes", 0x2102 ∷ []) ∷ (codes "cong", 0x2245 ∷ []) ∷ (codes "congdot", 0x2a6d ∷ []) ∷
    (codes "conint", 0x222e ∷ []) ∷ (codes "copf", 0x1d554 ∷ []) ∷ (codes "coprod", 0x2210 ∷ []) ∷
    (codes "copy", 0xa9 ∷ []) ∷ (codes "copysr", 0x2117 ∷ []) ∷ (codes "crarr", 0x21b5 ∷ []) ∷
    (codes "cross", 0x2717 ∷ []) ∷ (codes "cscr", 0x1d4b8 ∷ []) ∷ (codes "csub", 0x2acf ∷ []) ∷
    (codes "csube", 0x2ad1 ∷ []) ∷ (codes "csup", 0x2ad0 ∷ []) ∷ (codes "csupe", 0x2ad2 ∷ []) ∷
    (codes "ctdot", 0x22ef ∷ []) ∷ (codes "cudarrl", 0x2938 ∷ []) ∷ (codes "cudarrr", 0x2935 ∷ []) ∷
    (codes "cuepr", 0x22de ∷ []) ∷ (codes "cuesc", 0x22df ∷ []) ∷ (codes "cularr", 0x21b6 ∷ []) ∷
    (codes "cularrp", 0x293d ∷ []) ∷ (codes "cup", 0x222a ∷ []) ∷ (codes "cupbrcap", 0x2a48 ∷ []) ∷
    (codes "cupcap", 0x2a46 ∷ []) ∷ (codes "cupcup", 0x2a4a ∷ []) ∷ (codes "cupdot", 0x228d ∷ []) ∷
    (codes "cupor", 0x2a45 ∷ []) ∷ (codes "cups", 0x222a ∷ 0xfe00 ∷ []) ∷ (codes "curarr", 0x21b7 ∷ []) ∷
    (codes "curarrm", 0x293c ∷ []) ∷ (codes "curlyeqprec", 0x22de ∷ []) ∷ (codes "curlyeqsucc", 0x22df ∷ []) ∷
    (codes "curlyvee", 0x22ce ∷ []) ∷ (codes "curlywedge", 0x22cf ∷ []) ∷ (codes "curren", 0xa4 ∷ []) ∷
    (codes "curvearrowleft", 0x21b6 ∷ []) ∷ (codes "curvearrowright", 0x21b7 ∷ []) ∷ (codes "cuvee", 0x22ce ∷ []) ∷
    (codes "cuwed", 0x22cf ∷ []) ∷ (codes "cwconint", 0x2232 ∷ []) ∷ (codes "cwint", 0x2231 ∷ []) ∷
    (codes "cylcty", 0x232d ∷ []) ∷ [])
    ∷ (
    (codes "dArr", 0x21d3 ∷ []) ∷ (codes "dHar", 0x2965 ∷ []) ∷ (codes "dagger", 0x2020 ∷ []) ∷
    (codes "daleth", 0x2138 ∷ []) ∷ (codes "darr", 0x2193 ∷ []) ∷ (codes "dash", 0x2010 ∷ []) ∷
    (codes "dashv", 0x22a3 ∷ []) ∷ (codes "dbkarow", 0x290f ∷ []) ∷ (codes "dblac", 0x2dd ∷ []) ∷
    (codes "dcaron", 0x10f ∷ []) ∷ (codes "dcy", 0x434 ∷ []) ∷ (codes "dd", 0x2146 ∷ []) ∷
    (codes "ddagger", 0x2021 ∷ []) ∷ (codes "ddarr", 0x21ca ∷ []) ∷ (codes "ddotseq", 0x2a77 ∷ []) ∷
    (codes "deg", 0xb0 ∷ []) ∷ (codes "delta", 0x3b4 ∷ []) ∷ (codes "demptyv", 0x29b1 ∷ []) ∷
    (codes "dfisht", 0x297f ∷ []) ∷ (codes "dfr", 0x1d521 ∷ []) ∷ (codes "dharl", 0x21c3 ∷ []) ∷
    (codes "dharr", 0x21c2 ∷ []) ∷ (codes "diam", 0x22c4 ∷ []) ∷ (codes "diamond", 0x22c4 ∷ []) ∷
    (codes "diamondsuit", 0x2666 ∷ []) ∷ (codes "diams", 0x2666 ∷ []) ∷ (codes "die", 0xa8 ∷ []) ∷
    (codes "digamma", 0x3dd ∷ []) ∷ (codes "disin", 0x22f2 ∷ []) ∷ (codes "div", 0xf7 ∷ []) ∷
    (codes "divide", 0xf7 ∷ []) ∷ (codes "divideontimes", 0x22c7 ∷ []) ∷ (codes "divonx", 0x22c7 ∷ []) ∷
    (codes "djcy", 0x452 ∷ []) ∷ (codes "dlcorn", 0x231e ∷ []) ∷ (codes "dlcrop", 0x230d ∷ []) ∷
    (codes "dollar", 0x24 ∷ []) ∷ (codes "dopf", 0x1d555 ∷ []) ∷ (codes "dot", 0x2d9 ∷ []) ∷
    (codes "doteq", 0x2250 ∷ []) ∷ (codes "doteqdot", 0x2251 ∷ []) ∷ (codes "dotminus", 0x2238 ∷ []) ∷
    (codes "dotplus", 0x2214 ∷ []) ∷ (codes "dotsquare", 0x22a1 ∷ []) ∷ (codes "doublebarwedge", 0x2306 ∷ []) ∷
    (codes "downarrow", 0x2193 ∷ []) ∷ (codes "downdownarrows", 0x21ca ∷ []) ∷ (codes "downharpoonleft", 0x21c3 ∷ []) ∷
    (codes "downharpoonright", 0x21c2 ∷ []) ∷ (codes "drbkarow", 0x2910 ∷ []) ∷ (codes "drcorn", 0x231f ∷ []) ∷
    (codes "drcrop", 0x230c ∷ []) ∷ (codes "dscr", 0x1d4b9 ∷ []) ∷ (codes "dscy", 0x455 ∷ []) ∷
    (codes "dsol", 0x29f6 ∷ []) ∷ (codes "dstrok", 0x111 ∷ []) ∷ (codes "dtdot", 0x22f1 ∷ []) ∷
    (codes "dtri", 0x25bf ∷ []) ∷ (codes "dtrif", 0x25be ∷ []) ∷ (codes "duarr", 0x21f5 ∷ []) ∷
    (codes "duhar", 0x296f ∷ []) ∷ (codes "dwangle", 0x29a6 ∷ []) ∷ (codes "dzcy", 0x45f ∷ []) ∷
    (codes "dzigrarr", 0x27ff ∷ []) ∷ [])
    ∷ (
    (codes "eDDot", 0x2a77 ∷ []) ∷ (codes "eDot", 0x2251 ∷ []) ∷ (codes "eacute", 0xe9 ∷ []) ∷
    (codes "easter", 0x2a6e ∷ []) ∷ (codes "ecaron", 0x11b ∷ []) ∷ (codes "ecir", 0x2256 ∷ []) ∷
    (codes "ecirc", 0xea ∷ []) ∷ (codes "ecolon", 0x2255 ∷ []) ∷ (codes "ecy", 0x44d ∷ []) ∷
    (codes "edot", 0x117 ∷ []) ∷ (codes "ee", 0x2147 ∷ []) ∷ (codes "efDot", 0x2252 ∷ []) ∷
    (codes "efr", 0x1d522 ∷ []) ∷ (codes "eg", 0x2a9a ∷ []) ∷ (codes "egrave", 0xe8 ∷ []) ∷ (codes "egs", 0x2a96 ∷ []) ∷
    (codes "egsdot", 0x2a98 ∷ []) ∷ (codes "el", 0x2a99 ∷ []) ∷ (codes "elinters", 0x23e7 ∷ []) ∷
    (codes "ell", 0x2113 ∷ []) ∷ (codes "els", 0x2a95 ∷ []) ∷ (codes "elsdot", 0x2a97 ∷ []) ∷
    (codes "emacr", 0x113 ∷ []) ∷ (codes "empty", 0x2205 ∷ []) ∷ (codes "emptyset", 0x2205 ∷ []) ∷
    (codes "emptyv", 0x2205 ∷ []) ∷ (codes "emsp", 0x2003 ∷ []) ∷ (codes "emsp13", 0x2004 ∷ []) ∷
    (codes "emsp14", 0x2005 ∷ []) ∷ (codes "eng", 0x14b ∷ []) ∷ (codes "ensp", 0x2002 ∷ []) ∷
    (codes "eogon", 0x119 ∷ []) ∷ (codes "eopf", 0x1d556 ∷ []) ∷ (codes "epar", 0x22d5 ∷ []) ∷
    (codes "eparsl", 0x29e3 ∷ []) ∷ (codes "eplus", 0x2a71 ∷ []) ∷ (codes "epsi", 0x3b5 ∷ []) ∷
    (codes "epsilon", 0x3b5 ∷ []) ∷ (codes "epsiv", 0x3f5 ∷ []) ∷ (codes "eqcirc", 0x2256 ∷ []) ∷
    (codes "eqcolon", 0x2255 ∷ []) ∷ (codes "eqsim", 0x2242 ∷ []) ∷ (codes "eqslantgtr", 0x2a96 ∷ []) ∷
    (codes "eqslantless", 0x2a95 ∷ []) ∷ (codes "equals", 0x3d ∷ []) ∷ (codes "equest", 0x225f ∷ []) ∷
    (codes "equiv", 0x2261 ∷ []) ∷ (codes "equivDD", 0x2a78 ∷ []) ∷ (codes "eqvparsl", 0x29e5 ∷ []) ∷
    (codes "erDot", 0x2253 ∷ []) ∷ (codes "erarr", 0x2971 ∷ []) ∷ (codes "escr", 0x212f ∷ []) ∷
    (codes "esdot", 0x2250 ∷ []) ∷ (codes "esim", 0x2242 ∷ []) ∷ (codes "eta", 0x3b7 ∷ []) ∷ (codes "eth", 0xf0 ∷ []) ∷
    (codes "euml", 0xeb ∷ []) ∷ (codes "euro", 0x20ac ∷ []) ∷ (codes "excl", 0x21 ∷ []) ∷ (codes "exist", 0x2203 ∷ []) ∷
    (codes "expectation", 0x2130 ∷ []) ∷ (codes "exponentiale", 0x2147 ∷ []) ∷ [])
    ∷ (
    (codes "fallingdotseq", 0x2252 ∷ []) ∷ (codes "fcy", 0x444 ∷ []) ∷ (codes "female", 0x2640 ∷ []) ∷
    (codes "ffilig", 0xfb03 ∷ []) ∷ (codes "fflig", 0xfb00 ∷ []) ∷ (codes "ffllig", 0xfb04 ∷ []) ∷
    (codes "ffr", 0x1d523 ∷ []) ∷ (codes "filig", 0xfb01 ∷ []) ∷ (codes "fjlig", 0x66 ∷ 0x6a ∷ []) ∷
    (codes "flat", 0x266d ∷ []) ∷ (codes "fllig", 0xfb02 ∷ []) ∷ (codes "fltns", 0x25b1 ∷ []) ∷
    (codes "fnof", 0x192 ∷ []) ∷ (codes "fopf", 0x1d557 ∷ []) ∷ (codes "forall", 0x2200 ∷ []) ∷
    (codes "fork", 0x22d4 ∷ []) ∷ (codes "forkv", 0x2ad9 ∷ []) ∷ (codes "fpartint", 0x2a0d ∷ []) ∷
    (codes "frac12", 0xbd ∷ []) ∷ (codes "frac13", 0x2153 ∷ []) ∷ (codes "frac14", 0xbc ∷ []) ∷
    (codes "frac15", 0x2155 ∷ []) ∷ (codes "frac16", 0x2159 ∷ []) ∷ (codes "frac18", 0x215b ∷ []) ∷
    (codes "frac23", 0x2154 ∷ []) ∷ (codes "frac25", 0x2156 ∷ []) ∷ (codes "frac34", 0xbe ∷ []) ∷
    (codes "frac35", 0x2157 ∷ []) ∷ (codes "frac38", 0x215c ∷ []) ∷ (codes "frac45", 0x2158 ∷ []) ∷
    (codes "frac56", 0x215a ∷ []) ∷ (codes "frac58", 0x215d ∷ []) ∷ (codes "frac78", 0x215e ∷ []) ∷
    (codes "frasl", 0x2044 ∷ []) ∷ (codes "frown", 0x2322 ∷ []) ∷ (codes "fscr", 0x1d4bb ∷ []) ∷ [])
    ∷ (
    (codes "gE", 0x2267 ∷ []) ∷ (codes "gEl", 0x2a8c ∷ []) ∷ (codes "gacute", 0x1f5 ∷ []) ∷
    (codes "gamma", 0x3b3 ∷ []) ∷ (codes "gammad", 0x3dd ∷ []) ∷ (codes "gap", 0x2a86 ∷ []) ∷
    (codes "gbreve", 0x11f ∷ []) ∷ (codes "gcirc", 0x11d ∷ []) ∷ (codes "gcy", 0x433 ∷ []) ∷
    (codes "gdot", 0x121 ∷ []) ∷ (codes "ge", 0x2265 ∷ []) ∷ (codes "gel", 0x22db ∷ []) ∷ (codes "geq", 0x2265 ∷ []) ∷
    (codes "geqq", 0x2267 ∷ []) ∷ (codes "geqslant", 0x2a7e ∷ []) ∷ (codes "ges", 0x2a7e ∷ []) ∷
    (codes "gescc", 0x2aa9 ∷ []) ∷ (codes "gesdot", 0x2a80 ∷ []) ∷ (codes "gesdoto", 0x2a82 ∷ []) ∷
    (codes "gesdotol", 0x2a84 ∷ []) ∷ (codes "gesl", 0x22db ∷ 0xfe00 ∷ []) ∷ (codes "gesles", 0x2a94 ∷ []) ∷
    (codes "gfr", 0x1d524 ∷ []) ∷ (codes "gg", 0x226b ∷ []) ∷ (codes "ggg", 0x22d9 ∷ []) ∷
    (codes "gimel", 0x2137 ∷ []) ∷ (codes "gjcy", 0x453 ∷ []) ∷ (codes "gl", 0x2277 ∷ []) ∷ (codes "glE", 0x2a92 ∷ []) ∷
    (codes "gla", 0x2aa5 ∷ []) ∷ (codes "glj", 0x2aa4 ∷ []) ∷ (codes "gnE", 0x2269 ∷ []) ∷ (codes "gnap", 0x2a8a ∷ []) ∷
    (codes "gnapprox", 0x2a8a ∷ []) ∷ (codes "gne", 0x2a88 ∷ []) ∷ (codes "gneq", 0x2a88 ∷ []) ∷
    (codes "gneqq", 0x2269 ∷ []) ∷ (codes "gnsim", 0x22e7 ∷ []) ∷ (codes "gopf", 0x1d558 ∷ []) ∷
    (codes "grave", 0x60 ∷ []) ∷ (codes "gscr", 0x210a ∷ []) ∷ (codes "gsim", 0x2273 ∷ []) ∷
    (codes "gsime", 0x2a8e ∷ []) ∷ (codes "gsiml", 0x2a90 ∷ []) ∷ (codes "gt", 0x3e ∷ []) ∷
    (codes "gtcc", 0x2aa7 ∷ []) ∷ (codes "gtcir", 0x2a7a ∷ []) ∷ (codes "gtdot", 0x22d7 ∷ []) ∷
    (codes "gtlPar", 0x2995 ∷ []) ∷ (codes "gtquest", 0x2a7c ∷ []) ∷ (codes "gtrapprox", 0x2a86 ∷ []) ∷
    (codes "gtrarr", 0x2978 ∷ []) ∷ (codes "gtrdot", 0x22d7 ∷ []) ∷ (codes "gtreqless", 0x22db ∷ []) ∷
    (codes "gtreqqless", 0x2a8c ∷ []) ∷ (codes "gtrless", 0x2277 ∷ []) ∷ (codes "gtrsim", 0x2273 ∷ []) ∷
    (codes "gvertneqq", 0x2269 ∷ 0xfe00 ∷ []) ∷ (codes "gvnE", 0x2269 ∷ 0xfe00 ∷ []) ∷ [])
    ∷ (
    (codes "hArr", 0x21d4 ∷ []) ∷ (codes "hairsp", 0x200a ∷ []) ∷ (codes "half", 0xbd ∷ []) ∷
    (codes "hamilt", 0x210b ∷ []) ∷ (codes "hardcy", 0x44a ∷ []) ∷ (codes "harr", 0x2194 ∷ []) ∷
    (codes "harrcir", 0x2948 ∷ []) ∷ (codes "harrw", 0x21ad ∷ []) ∷ (codes "hbar", 0x210f ∷ []) ∷
    (codes "hcirc", 0x125 ∷ []) ∷ (codes "hearts", 0x2665 ∷ []) ∷ (codes "heartsuit", 0x2665 ∷ []) ∷
    (codes "hellip", 0x2026 ∷ []) ∷ (codes "hercon", 0x22b9 ∷ []) ∷ (codes "hfr", 0x1d525 ∷ []) ∷
    (codes "hksearow", 0x2925 ∷ []) ∷ (codes "hkswarow", 0x2926 ∷ []) ∷ (codes "hoarr", 0x21ff ∷ []) ∷
    (codes "homtht", 0x223b ∷ []) ∷ (codes "hookleftarrow", 0x21a9 ∷ []) ∷ (codes "hookrightarrow", 0x21aa ∷ []) ∷
    (codes "hopf", 0x1d559 ∷ []) ∷ (codes "horbar", 0x2015 ∷ []) ∷ (codes "hscr", 0x1d4bd ∷ []) ∷
    (codes "hslash", 0x210f ∷ []) ∷ (codes "hstrok", 0x127 ∷ []) ∷ (codes "hybull", 0x2043 ∷ []) ∷
    (codes "hyphen", 0x2010 ∷ []) ∷ [])
    ∷ (
    (codes "iacute", 0xed ∷ []) ∷ (codes "ic", 0x2063 ∷ []) ∷ (codes "icirc", 0xee ∷ []) ∷ (codes "icy", 0x438 ∷ []) ∷
    (codes "iecy", 0x435 ∷ []) ∷ (codes "iexcl", 0xa1 ∷ []) ∷ (codes "iff", 0x21d4 ∷ []) ∷ (codes "ifr", 0x1d526 ∷ []) ∷
    (codes "igrave", 0xec ∷ []) ∷ (codes "ii", 0x2148 ∷ []) ∷ (codes "iiiint", 0x2a0c ∷ []) ∷
    (codes "iiint", 0x222d ∷ []) ∷ (codes "iinfin", 0x29dc ∷ []) ∷ (codes "iiota", 0x2129 ∷ []) ∷
    (codes "ijlig", 0x133 ∷ []) ∷ (codes "imacr", 0x12b ∷ []) ∷ (codes "image", 0x2111 ∷ []) ∷
    (codes "imagline", 0x2110 ∷ []) ∷ (codes "imagpart", 0x2111 ∷ []) ∷ (codes "imath", 0x131 ∷ []) ∷
    (codes "imof", 0x22b7 ∷ []) ∷ (codes "imped", 0x1b5 ∷ []) ∷ (codes "in", 0x2208 ∷ []) ∷
    (codes "incare", 0x2105 ∷ []) ∷ (codes "infin", 0x221e ∷ []) ∷ (codes "infintie", 0x29dd ∷ []) ∷
    (codes "inodot", 0x131 ∷ []) ∷ (codes "int", 0x222b ∷ []) ∷ (codes "intcal", 0x22ba ∷ []) ∷
    (codes "integers", 0x2124 ∷ []) ∷ (codes "intercal", 0x22ba ∷ []) ∷ (codes "intlarhk", 0x2a17 ∷ []) ∷
    (codes "intprod", 0x2a3c ∷ []) ∷ (codes "iocy", 0x451 ∷ []) ∷ (codes "iogon", 0x12f ∷ []) ∷
    (codes "iopf", 0x1d55a ∷ []) ∷ (codes "iota", 0x3b9 ∷ []) ∷ (codes "iprod", 0x2a3c ∷ []) ∷
    (codes "iquest", 0xbf ∷ []) ∷ (codes "iscr", 0x1d4be ∷ []) ∷ (codes "isin", 0x2208 ∷ []) ∷
    (codes "isinE", 0x22f9 ∷ []) ∷ (codes "isindot", 0x22f5 ∷ []) ∷ (codes "isins", 0x22f4 ∷ []) ∷
    (codes "isinsv", 0x22f3 ∷ []) ∷ (codes "isinv", 0x2208 ∷ []) ∷ (codes "it", 0x2062 ∷ []) ∷
    (codes "itilde", 0x129 ∷ []) ∷ (codes "iukcy", 0x456 ∷ []) ∷ (codes "iuml", 0xef ∷ []) ∷ [])
    ∷ (
    (codes "jcirc", 0x135 ∷ []) ∷ (codes "jcy", 0x439 ∷ []) ∷ (codes "jfr", 0x1d527 ∷ []) ∷
    (codes "jmath", 0x237 ∷ []) ∷ (codes "jopf", 0x1d55b ∷ []) ∷ (codes "jscr", 0x1d4bf ∷ []) ∷
    (codes "jsercy", 0x458 ∷ []) ∷ (codes "jukcy", 0x454 ∷ []) ∷ [])
    ∷ (
    (codes "kappa", 0x3ba ∷ []) ∷ (codes "kappav", 0x3f0 ∷ []) ∷ (codes "kcedil", 0x137 ∷ []) ∷
    (codes "kcy", 0x43a ∷ []) ∷ (codes "kfr", 0x1d528 ∷ []) ∷ (codes "kgreen", 0x138 ∷ []) ∷
    (codes "khcy", 0x445 ∷ []) ∷ (codes "kjcy", 0x45c ∷ []) ∷ (codes "kopf", 0x1d55c ∷ []) ∷
    (codes "kscr", 0x1d4c0 ∷ []) ∷ [])
    ∷ (
    (codes "lAarr", 0x21da ∷ []) ∷ (codes "lArr", 0x21d0 ∷ []) ∷ (codes "lAtail", 0x291b ∷ []) ∷
    (codes "lBarr", 0x290e ∷ []) ∷ (codes "lE", 0x2266 ∷ []) ∷ (codes "lEg", 0x2a8b ∷ []) ∷
    (codes "lHar", 0x2962 ∷ []) ∷ (codes "lacute", 0x13a ∷ []) ∷ (codes "laemptyv", 0x29b4 ∷ []) ∷
    (codes "lagran", 0x2112 ∷ []) ∷ (codes "lambda", 0x3bb ∷ []) ∷ (codes "lang", 0x27e8 ∷ []) ∷
    (codes "langd", 0x2991 ∷ []) ∷ (codes "langle", 0x27e8 ∷ []) ∷ (codes "lap", 0x2a85 ∷ []) ∷
    (codes "laquo", 0xab ∷ []) ∷ (codes "larr", 0x2190 ∷ []) ∷ (codes "larrb", 0x21e4 ∷ []) ∷
    (codes "larrbfs", 0x291f ∷ []) ∷ (codes "larrfs", 0x291d ∷ []) ∷ (codes "larrhk", 0x21a9 ∷ []) ∷
    (codes "larrlp", 0x21ab ∷ []) ∷ (codes "larrpl", 0x2939 ∷ []) ∷ (codes "larrsim", 0x2973 ∷ []) ∷
    (codes "larrtl", 0x21a2 ∷ []) ∷ (codes "lat", 0x2aab ∷ []) ∷ (codes "latail", 0x2919 ∷ []) ∷
    (codes "late", 0x2aad ∷ []) ∷ (codes "lates", 0x2aad ∷ 0xfe00 ∷ []) ∷ (codes "lbarr", 0x290c ∷ []) ∷
    (codes "lbbrk", 0x2772 ∷ []) ∷ (codes "lbrace", 0x7b ∷ []) ∷ (codes "lbrack", 0x5b ∷ []) ∷
    (codes "lbrke", 0x298b ∷ []) ∷ (codes "lbrksld", 0x298f ∷ []) ∷ (codes "lbrkslu", 0x298d ∷ []) ∷
    (codes "lcaron", 0x13e ∷ []) ∷ (codes "lcedil", 0x13c ∷ []) ∷ (codes "lceil", 0x2308 ∷ []) ∷
    (codes "lcub", 0x7b ∷ []) ∷ (codes "lcy", 0x43b ∷ []) ∷ (codes "ldca", 0x2936 ∷ []) ∷ (codes "ldquo", 0x201c ∷ []) ∷
    (codes "ldquor", 0x201e ∷ []) ∷ (codes "ldrdhar", 0x2967 ∷ []) ∷ (codes "ldrushar", 0x294b ∷ []) ∷
    (codes "ldsh", 0x21b2 ∷ []) ∷ (codes "le", 0x2264 ∷ []) ∷ (codes "leftarrow", 0x2190 ∷ []) ∷
    (codes "leftarrowtail", 0x21a2 ∷ []) ∷ (codes "leftharpoondown", 0x21bd ∷ []) ∷
    (codes "leftharpoonup", 0x21bc ∷ []) ∷ (codes "leftleftarrows", 0x21c7 ∷ []) ∷
    (codes "leftrightarrow", 0x2194 ∷ []) ∷ (codes "leftrightarrows", 0x21c6 ∷ []) ∷
    (codes "leftrightharpoons", 0x21cb ∷ []) ∷ (codes "leftrightsquigarrow", 0x21ad ∷ []) ∷
    (codes "leftthreetimes", 0x22cb ∷ []) ∷ (codes "leg", 0x22da ∷ []) ∷ (codes "leq", 0x2264 ∷ []) ∷
    (codes "leqq", 0x2266 ∷ []) ∷ (codes "leqslant", 0x2a7d ∷ []) ∷ (codes "les", 0x2a7d ∷ []) ∷
    (codes "lescc", 0x2aa8 ∷ []) ∷ (codes "lesdot", 0x2a7f ∷ []) ∷ (codes "lesdoto", 0x2a81 ∷ []) ∷
    (codes "lesdotor", 0x2a83 ∷ []) ∷ (codes "lesg", 0x22da ∷ 0xfe00 ∷ []) ∷ (codes "lesges", 0x2a93 ∷ []) ∷
    (codes "lessapprox", 0x2a85 ∷ []) ∷ (codes "lessdot", 0x22d6 ∷ []) ∷ (codes "lesseqgtr", 0x22da ∷ []) ∷
    (codes "lesseqqgtr", 0x2a8b ∷ []) ∷ (codes "lessgtr", 0x2276 ∷ []) ∷ (codes "lesssim", 0x2272 ∷ []) ∷
    (codes "lfisht", 0x297c ∷ []) ∷ (codes "lfloor", 0x230a ∷ []) ∷ (codes "lfr", 0x1d529 ∷ []) ∷
    (codes "lg", 0x2276 ∷ []) ∷ (codes "lgE", 0x2a91 ∷ []) ∷ (codes "lhard", 0x21bd ∷ []) ∷
    (codes "lharu", 0x21bc ∷ []) ∷ (codes "lharul", 0x296a ∷ []) ∷ (codes "lhblk", 0x2584 ∷ []) ∷
    (codes "ljcy", 0x459 ∷ []) ∷ (codes "ll", 0x226a ∷ []) ∷ (codes "llarr", 0x21c7 ∷ []) ∷
    (codes "llcorner", 0x231e ∷ []) ∷ (codes "llhard", 0x296b ∷ []) ∷ (codes "lltri", 0x25fa ∷ []) ∷
    (codes "lmidot", 0x140 ∷ []) ∷ (codes "lmoust", 0x23b0 ∷ []) ∷ (codes "lmoustache", 0x23b0 ∷ []) ∷
    (codes "lnE", 0x2268 ∷ []) ∷ (codes "lnap", 0x2a89 ∷ []) ∷ (codes "lnapprox", 0x2a89 ∷ []) ∷
    (codes "lne", 0x2a87 ∷ []) ∷ (codes "lneq", 0x2a87 ∷ []) ∷ (codes "lneqq", 0x2268 ∷ []) ∷
    (codes "lnsim", 0x22e6 ∷ []) ∷ (codes "loang", 0x27ec ∷ []) ∷ (codes "loarr", 0x21fd ∷ []) ∷
    (codes "lobrk", 0x27e6 ∷ []) ∷ (codes "longleftarrow", 0x27f5 ∷ []) ∷ (codes "longleftrightarrow", 0x27f7 ∷ []) ∷
    (codes "longmapsto", 0x27fc ∷ []) ∷ (codes "longrightarrow", 0x27f6 ∷ []) ∷ (codes "looparrowleft", 0x21ab ∷ []) ∷
    (codes "looparrowright", 0x21ac ∷ []) ∷ (codes "lopar", 0x2985 ∷ []) ∷ (codes "lopf", 0x1d55d ∷ []) ∷
    (codes "loplus", 0x2a2d ∷ []) ∷ (codes "lotimes", 0x2a34 ∷ []) ∷ (codes "lowast", 0x2217 ∷ []) ∷
    (codes "lowbar", 0x5f ∷ []) ∷ (codes "loz", 0x25ca ∷ []) ∷ (codes "lozenge", 0x25ca ∷ []) ∷
    (codes "lozf", 0x29eb ∷ []) ∷ (codes "lpar", 0x28 ∷ []) ∷ (codes "lparlt", 0x2993 ∷ []) ∷
    (codes "lrarr", 0x21c6 ∷ []) ∷ (codes "lrcorner", 0x231f ∷ []) ∷ (codes "lrhar", 0x21cb ∷ []) ∷
    (codes "lrhard", 0x296d ∷ []) ∷ (codes "lrm", 0x200e ∷ []) ∷ (codes "lrtri", 0x22bf ∷ []) ∷
    (codes "lsaquo", 0x2039 ∷ []) ∷ (codes "lscr", 0x1d4c1 ∷ []) ∷ (codes "lsh", 0x21b0 ∷ []) ∷
    (codes "lsim", 0x2272 ∷ []) ∷ (codes "lsime", 0x2a8d ∷ []) ∷ (codes "lsimg", 0x2a8f ∷ []) ∷
    (codes "lsqb", 0x5b ∷ []) ∷ (codes "lsquo", 0x2018 ∷ []) ∷ (codes "lsquor", 0x201a ∷ []) ∷
    (codes "lstrok", 0x142 ∷ []) ∷ (codes "lt", 0x3c ∷ []) ∷ (codes "ltcc", 0x2aa6 ∷ []) ∷
    (codes "ltcir", 0x2a79 ∷ []) ∷ (codes "ltdot", 0x22d6 ∷ []) ∷ (codes "lthree", 0x22cb ∷ []) ∷
    (codes "ltimes", 0x22c9 ∷ []) ∷ (codes "ltlarr", 0x2976 ∷ []) ∷ (codes "ltquest", 0x2a7b ∷ []) ∷
    (codes "ltrPar", 0x2996 ∷ []) ∷ (codes "ltri", 0x25c3 ∷ []) ∷ (codes "ltrie", 0x22b4 ∷ []) ∷
    (codes "ltrif", 0x25c2 ∷ []) ∷ (codes "lurdshar", 0x294a ∷ []) ∷ (codes "luruhar", 0x2966 ∷ []) ∷
    (codes "lvertneqq", 0x2268 ∷ 0xfe00 ∷ []) ∷ (codes "lvnE", 0x2268 ∷ 0xfe00 ∷ []) ∷ [])
    ∷ (
    (codes "mDDot", 0x223a ∷ []) ∷ (codes "macr", 0xaf ∷ []) ∷ (codes "male", 0x2642 ∷ []) ∷
    (codes "malt", 0x2720 ∷ []) ∷ (codes "maltese", 0x2720 ∷ []) ∷ (codes "map", 0x21a6 ∷ []) ∷
    (codes "mapsto", 0x21a6 ∷ []) ∷ (codes "mapstodown", 0x21a7 ∷ []) ∷ (codes "mapstoleft", 0x21a4 ∷ []) ∷
    (codes "mapstoup", 0x21a5 ∷ []) ∷ (codes "marker", 0x25ae ∷ []) ∷ (codes "mcomma", 0x2a29 ∷ []) ∷
    (codes "mcy", 0x43c ∷ []) ∷ (codes "mdash", 0x2014 ∷ []) ∷ (codes "measuredangle", 0x2221 ∷ []) ∷
    (codes "mfr", 0x1d52a ∷ []) ∷ (codes "mho", 0x2127 ∷ []) ∷ (codes "micro", 0xb5 ∷ []) ∷ (codes "mid", 0x2223 ∷ []) ∷
    (codes "midast", 0x2a ∷ []) ∷ (codes "midcir", 0x2af0 ∷ []) ∷ (codes "middot", 0xb7 ∷ []) ∷
    (codes "minus", 0x2212 ∷ []) ∷ (codes "minusb", 0x229f ∷ []) ∷ (codes "minusd", 0x2238 ∷ []) ∷
    (codes "minusdu", 0x2a2a ∷ []) ∷ (codes "mlcp", 0x2adb ∷ []) ∷ (codes "mldr", 0x2026 ∷ []) ∷
    (codes "mnplus", 0x2213 ∷ []) ∷ (codes "models", 0x22a7 ∷ []) ∷ (codes "mopf", 0x1d55e ∷ []) ∷
    (codes "mp", 0x2213 ∷ []) ∷ (codes "mscr", 0x1d4c2 ∷ []) ∷ (codes "mstpos", 0x223e ∷ []) ∷
    (codes "mu", 0x3bc ∷ []) ∷ (codes "multimap", 0x22b8 ∷ []) ∷ (codes "mumap", 0x22b8 ∷ []) ∷ [])
    ∷ (
    (codes "nGg", 0x22d9 ∷ 0x338 ∷ []) ∷ (codes "nGt", 0x226b ∷ 0x20d2 ∷ []) ∷ (codes "nGtv", 0x226b ∷ 0x338 ∷ []) ∷
    (codes "nLeftarrow", 0x21cd ∷ []) ∷ (codes "nLeftrightarrow", 0x21ce ∷ []) ∷ (codes "nLl", 0x22d8 ∷ 0x338 ∷ []) ∷
    (codes "nLt", 0x226a ∷ 0x20d2 ∷ []) ∷ (codes "nLtv", 0x226a ∷ 0x338 ∷ []) ∷ (codes "nRightarrow", 0x21cf ∷ []) ∷
    (codes "nVDash", 0x22af ∷ []) ∷ (codes "nVdash", 0x22ae ∷ []) ∷ (codes "nabla", 0x2207 ∷ []) ∷
    (codes "nacute", 0x144 ∷ []) ∷ (codes "nang", 0x2220 ∷ 0x20d2 ∷ []) ∷ (codes "nap", 0x2249 ∷ []) ∷
    (codes "napE", 0x2a70 ∷ 0x338 ∷ []) ∷ (codes "napid", 0x224b ∷ 0x338 ∷ []) ∷ (codes "napos", 0x149 ∷ []) ∷
    (codes "napprox", 0x2249 ∷ []) ∷ (codes "natur", 0x266e ∷ []) ∷ (codes "natural", 0x266e ∷ []) ∷
    (codes "naturals", 0x2115 ∷ []) ∷ (codes "nbsp", 0xa0 ∷ []) ∷ (codes "nbump", 0x224e ∷ 0x338 ∷ []) ∷
    (codes "nbumpe", 0x224f ∷ 0x338 ∷ []) ∷ (codes "ncap", 0x2a43 ∷ []) ∷ (codes "ncaron", 0x148 ∷ []) ∷
    (codes "ncedil", 0x146 ∷ []) ∷ (codes "ncong", 0x2247 ∷ []) ∷ (codes "ncongdot", 0x2a6d ∷ 0x338 ∷ []) ∷
    (codes "ncup", 0x2a42 ∷ []) ∷ (codes "ncy", 0x43d ∷ []) ∷ (codes "ndash", 0x2013 ∷ []) ∷ (codes "ne", 0x2260 ∷ []) ∷
    (codes "neArr", 0x21d7 ∷ []) ∷ (codes "nearhk", 0x2924 ∷ []) ∷ (codes "nearr", 0x2197 ∷ []) ∷
    (codes "nearrow", 0x2197 ∷ []) ∷ (codes "nedot", 0x2250 ∷ 0x338 ∷ []) ∷ (codes "nequiv", 0x2262 ∷ []) ∷
    (codes "nesear", 0x2928 ∷ []) ∷ (codes "nesim", 0x2242 ∷ 0x338 ∷ []) ∷ (codes "nexist", 0x2204 ∷ []) ∷
    (codes "nexists", 0x2204 ∷ []) ∷ (codes "nfr", 0x1d52b ∷ []) ∷ (codes "ngE", 0x2267 ∷ 0x338 ∷ []) ∷
    (codes "nge", 0x2271 ∷ []) ∷ (codes "ngeq", 0x2271 ∷ []) ∷ (codes "ngeqq", 0x2267 ∷ 0x338 ∷ []) ∷
    (codes "ngeqslant", 0x2a7e ∷ 0x338 ∷ []) ∷ (codes "nges", 0x2a7e ∷ 0x338 ∷ []) ∷ (codes "ngsim", 0x2275 ∷ []) ∷
    (codes "ngt", 0x226f ∷ []) ∷ (codes "ngtr", 0x226f ∷ []) ∷ (codes "nhArr", 0x21ce ∷ []) ∷
    (codes "nharr", 0x21ae ∷ []) ∷ (codes "nhpar", 0x2af2 ∷ []) ∷ (codes "ni", 0x220b ∷ []) ∷
    (codes "nis", 0x22fc ∷ []) ∷ (codes "nisd", 0x22fa ∷ []) ∷ (codes "niv", 0x220b ∷ []) ∷ (codes "njcy", 0x45a ∷ []) ∷
    (codes "nlArr", 0x21cd ∷ []) ∷ (codes "nlE", 0x2266 ∷ 0x338 ∷ []) ∷ (codes "nlarr", 0x219a ∷ []) ∷
    (codes "nldr", 0x2025 ∷ []) ∷ (codes "nle", 0x2270 ∷ []) ∷ (codes "nleftarrow", 0x219a ∷ []) ∷
    (codes "nleftrightarrow", 0x21ae ∷ []) ∷ (codes "nleq", 0x2270 ∷ []) ∷ (codes "nleqq", 0x2266 ∷ 0x338 ∷ []) ∷
    (codes "nleqslant", 0x2a7d ∷ 0x338 ∷ []) ∷ (codes "nles", 0x2a7d ∷ 0x338 ∷ []) ∷ (codes "nless", 0x226e ∷ []) ∷
    (codes "nlsim", 0x2274 ∷ []) ∷ (codes "nlt", 0x226e ∷ []) ∷ (codes "nltri", 0x22ea ∷ []) ∷
    (codes "nltrie", 0x22ec ∷ []) ∷ (codes "nmid", 0x2224 ∷ []) ∷ (codes "nopf", 0x1d55f ∷ []) ∷
    (codes "not", 0xac ∷ []) ∷ (codes "notin", 0x2209 ∷ []) ∷ (codes "notinE", 0x22f9 ∷ 0x338 ∷ []) ∷
    (codes "notindot", 0x22f5 ∷ 0x338 ∷ []) ∷ (codes "notinva", 0x2209 ∷ []) ∷ (codes "notinvb", 0x22f7 ∷ []) ∷
    (codes "notinvc", 0x22f6 ∷ []) ∷ (codes "notni", 0x220c ∷ []) ∷ (codes "notniva", 0x220c ∷ []) ∷
    (codes "notnivb", 0x22fe ∷ []) ∷ (codes "notnivc", 0x22fd ∷ []) ∷ (codes "npar", 0x2226 ∷ []) ∷
    (codes "nparallel", 0x2226 ∷ []) ∷ (codes "nparsl", 0x2afd ∷ 0x20e5 ∷ []) ∷ (codes "npart", 0x2202 ∷ 0x338 ∷ []) ∷
    (codes "npolint", 0x2a14 ∷ []) ∷ (codes "npr", 0x2280 ∷ []) ∷ (codes "nprcue", 0x22e0 ∷ []) ∷
    (codes "npre", 0x2aaf ∷ 0x338 ∷ []) ∷ (codes "nprec", 0x2280 ∷ []) ∷ (codes "npreceq", 0x2aaf ∷ 0x338 ∷ []) ∷
    (codes "nrArr", 0x21cf ∷ []) ∷ (codes "nrarr", 0x219b ∷ []) ∷ (codes "nrarrc", 0x2933 ∷ 0x338 ∷ []) ∷
    (codes "nrarrw", 0x219d ∷ 0x338 ∷ []) ∷ (codes "nrightarrow", 0x219b ∷ []) ∷ (codes "nrtri", 0x22eb ∷ []) ∷
    (codes "nrtrie", 0x22ed ∷ []) ∷ (codes "nsc", 0x2281 ∷ []) ∷ (codes "nsccue", 0x22e1 ∷ []) ∷
    (codes "nsce", 0x2ab0 ∷ 0x338 ∷ []) ∷ (codes "nscr", 0x1d4c3 ∷ []) ∷ (codes "nshortmid", 0x2224 ∷ []) ∷
    (codes "nshortparallel", 0x2226 ∷ []) ∷ (codes "nsim", 0x2241 ∷ []) ∷ (codes "nsime", 0x2244 ∷ []) ∷
    (codes "nsimeq", 0x2244 ∷ []) ∷ (codes "nsmid", 0x2224 ∷ []) ∷ (codes "nspar", 0x2226 ∷ []) ∷
    (codes "nsqsube", 0x22e2 ∷ []) ∷ (codes "nsqsupe", 0x22e3 ∷ []) ∷ (codes "nsub", 0x2284 ∷ []) ∷
    (codes "nsubE", 0x2ac5 ∷ 0x338 ∷ []) ∷ (codes "nsube", 0x2288 ∷ []) ∷ (codes "nsubset", 0x2282 ∷ 0x20d2 ∷ []) ∷
    (codes "nsubseteq", 0x2288 ∷ []) ∷ (codes "nsubseteqq", 0x2ac5 ∷ 0x338 ∷ []) ∷ (codes "nsucc", 0x2281 ∷ []) ∷
    (codes "nsucceq", 0x2ab0 ∷ 0x338 ∷ []) ∷ (codes "nsup", 0x2285 ∷ []) ∷ (codes "nsupE", 0x2ac6 ∷ 0x338 ∷ []) ∷
    (codes "nsupe", 0x2289 ∷ []) ∷ (codes "nsupset", 0x2283 ∷ 0x20d2 ∷ []) ∷ (codes "nsupseteq", 0x2289 ∷ []) ∷
    (codes "nsupseteqq", 0x2ac6 ∷ 0x338 ∷ []) ∷ (codes "ntgl", 0x2279 ∷ []) ∷ (codes "ntilde", 0xf1 ∷ []) ∷
    (codes "ntlg", 0x2278 ∷ []) ∷ (codes "ntriangleleft", 0x22ea ∷ []) ∷ (codes "ntrianglelefteq", 0x22ec ∷ []) ∷
    (codes "ntriangleright", 0x22eb ∷ []) ∷ (codes "ntrianglerighteq", 0x22ed ∷ []) ∷ (codes "nu", 0x3bd ∷ []) ∷
    (codes "num", 0x23 ∷ []) ∷ (codes "numero", 0x2116 ∷ []) ∷ (codes "numsp", 0x2007 ∷ []) ∷
    (codes "nvDash", 0x22ad ∷ []) ∷ (codes "nvHarr", 0x2904 ∷ []) ∷ (codes "nvap", 0x224d ∷ 0x20d2 ∷ []) ∷
    (codes "nvdash", 0x22ac ∷ []) ∷ (codes "nvge", 0x2265 ∷ 0x20d2 ∷ []) ∷ (codes "nvgt", 0x3e ∷ 0x20d2 ∷ []) ∷
    (codes "nvinfin", 0x29de ∷ []) ∷ (codes "nvlArr", 0x2902 ∷ []) ∷ (codes "nvle", 0x2264 ∷ 0x20d2 ∷ []) ∷
    (codes "nvlt", 0x3c ∷ 0x20d2 ∷ []) ∷ (codes "nvltrie", 0x22b4 ∷ 0x20d2 ∷ []) ∷ (codes "nvrArr", 0x2903 ∷ []) ∷
    (codes "nvrtrie", 0x22b5 ∷ 0x20d2 ∷ []) ∷ (codes "nvsim", 0x223c ∷ 0x20d2 ∷ []) ∷ (codes "nwArr", 0x21d6 ∷ []) ∷
    (codes "nwarhk", 0x2923 ∷ []) ∷ (codes "nwarr", 0x2196 ∷ []) ∷ (codes "nwarrow", 0x2196 ∷ []) ∷
    (codes "nwnear", 0x2927 ∷ []) ∷ [])
    ∷ (
    (codes "oS", 0x24c8 ∷ []) ∷ (codes "oacute", 0xf3 ∷ []) ∷ (codes "oast", 0x229b ∷ []) ∷
    (codes "ocir", 0x229a ∷ []) ∷ (codes "ocirc", 0xf4 ∷ []) ∷ (codes "ocy", 0x43e ∷ []) ∷
    (codes "odash", 0x229d ∷ []) ∷ (codes "odblac", 0x151 ∷ []) ∷ (codes "odiv", 0x2a38 ∷ []) ∷
    (codes "odot", 0x2299 ∷ []) ∷ (codes "odsold", 0x29bc ∷ []) ∷ (codes "oelig", 0x153 ∷ []) ∷
    (codes "ofcir", 0x29bf ∷ []) ∷ (codes "ofr", 0x1d52c ∷ []) ∷ (codes "ogon", 0x2db ∷ []) ∷
    (codes "ograve", 0xf2 ∷ []) ∷ (codes "ogt", 0x29c1 ∷ []) ∷ (codes "ohbar", 0x29b5 ∷ []) ∷
    (codes "ohm", 0x3a9 ∷ []) ∷ (codes "oint", 0x222e ∷ []) ∷ (codes "olarr", 0x21ba ∷ []) ∷
    (codes "olcir", 0x29be ∷ []) ∷ (codes "olcross", 0x29bb ∷ []) ∷ (codes "oline", 0x203e ∷ []) ∷
    (codes "olt", 0x29c0 ∷ []) ∷ (codes "omacr", 0x14d ∷ []) ∷ (codes "omega", 0x3c9 ∷ []) ∷
    (codes "omicron", 0x3bf ∷ []) ∷ (codes "omid", 0x29b6 ∷ []) ∷ (codes "ominus", 0x2296 ∷ []) ∷
    (codes "oopf", 0x1d560 ∷ []) ∷ (codes "opar", 0x29b7 ∷ []) ∷ (codes "operp", 0x29b9 ∷ []) ∷
    (codes "oplus", 0x2295 ∷ []) ∷ (codes "or", 0x2228 ∷ []) ∷ (codes "orarr", 0x21bb ∷ []) ∷
    (codes "ord", 0x2a5d ∷ []) ∷ (codes "order", 0x2134 ∷ []) ∷ (codes "orderof", 0x2134 ∷ []) ∷
    (codes "ordf", 0xaa ∷ []) ∷ (codes "ordm", 0xba ∷ []) ∷ (codes "origof", 0x22b6 ∷ []) ∷
    (codes "oror", 0x2a56 ∷ []) ∷ (codes "orslope", 0x2a57 ∷ []) ∷ (codes "orv", 0x2a5b ∷ []) ∷
    (codes "oscr", 0x2134 ∷ []) ∷ (codes "oslash", 0xf8 ∷ []) ∷ (codes "osol", 0x2298 ∷ []) ∷
    (codes "otilde", 0xf5 ∷ []) ∷ (codes "otimes", 0x2297 ∷ []) ∷ (codes "otimesas", 0x2a36 ∷ []) ∷
    (codes "ouml", 0xf6 ∷ []) ∷ (codes "ovbar", 0x233d ∷ []) ∷ [])
    ∷ (
    (codes "par", 0x2225 ∷ []) ∷ (codes "para", 0xb6 ∷ []) ∷ (codes "parallel", 0x2225 ∷ []) ∷
    (codes "parsim", 0x2af3 ∷ []) ∷ (codes "parsl", 0x2afd ∷ []) ∷ (codes "part", 0x2202 ∷ []) ∷
    (codes "pcy", 0x43f ∷ []) ∷ (codes "percnt", 0x25 ∷ []) ∷ (codes "period", 0x2e ∷ []) ∷
    (codes "permil", 0x2030 ∷ []) ∷ (codes "perp", 0x22a5 ∷ []) ∷ (codes "pertenk", 0x2031 ∷ []) ∷
    (codes "pfr", 0x1d52d ∷ []) ∷ (codes "phi", 0x3c6 ∷ []) ∷ (codes "phiv", 0x3d5 ∷ []) ∷
    (codes "phmmat", 0x2133 ∷ []) ∷ (codes "phone", 0x260e ∷ []) ∷ (codes "pi", 0x3c0 ∷ []) ∷
    (codes "pitchfork", 0x22d4 ∷ []) ∷ (codes "piv", 0x3d6 ∷ []) ∷ (codes "planck", 0x210f ∷ []) ∷
    (codes "planckh", 0x210e ∷ []) ∷ (codes "plankv", 0x210f ∷ []) ∷ (codes "plus", 0x2b ∷ []) ∷
    (codes "plusacir", 0x2a23 ∷ []) ∷ (codes "plusb", 0x229e ∷ []) ∷ (codes "pluscir", 0x2a22 ∷ []) ∷
    (codes "plusdo", 0x2214 ∷ []) ∷ (codes "plusdu", 0x2a25 ∷ []) ∷ (codes "pluse", 0x2a72 ∷ []) ∷
    (codes "plusmn", 0xb1 ∷ []) ∷ (codes "plussim", 0x2a26 ∷ []) ∷ (codes "plustwo", 0x2a27 ∷ []) ∷
    (codes "pm", 0xb1 ∷ []) ∷ (codes "pointint", 0x2a15 ∷ []) ∷ (codes "popf", 0x1d561 ∷ []) ∷
    (codes "pound", 0xa3 ∷ []) ∷ (codes "pr", 0x227a ∷ []) ∷ (codes "prE", 0x2ab3 ∷ []) ∷ (codes "prap", 0x2ab7 ∷ []) ∷
    (codes "prcue", 0x227c ∷ []) ∷ (codes "pre", 0x2aaf ∷ []) ∷ (codes "prec", 0x227a ∷ []) ∷
    (codes "precapprox", 0x2ab7 ∷ []) ∷ (codes "preccurlyeq", 0x227c ∷ []) ∷ (codes "preceq", 0x2aaf ∷ []) ∷
    (codes "precnapprox", 0x2ab9 ∷ []) ∷ (codes "precneqq", 0x2ab5 ∷ []) ∷ (codes "precnsim", 0x22e8 ∷ []) ∷
    (codes "precsim", 0x227e ∷ []) ∷ (codes "prime", 0x2032 ∷ []) ∷ (codes "primes", 0x2119 ∷ []) ∷
    (codes "prnE", 0x2ab5 ∷ []) ∷ (codes "prnap", 0x2ab9 ∷ []) ∷ (codes "prnsim", 0x22e8 ∷ []) ∷
    (codes "prod", 0x220f ∷ []) ∷ (codes "profalar", 0x232e ∷ []) ∷ (codes "profline", 0x2312 ∷ []) ∷
    (codes "profsurf", 0x2313 ∷ []) ∷ (codes "prop", 0x221d ∷ []) ∷ (codes "propto", 0x221d ∷ []) ∷
    (codes "prsim", 0x227e ∷ []) ∷ (codes "prurel", 0x22b0 ∷ []) ∷ (codes "pscr", 0x1d4c5 ∷ []) ∷
    (codes "psi", 0x3c8 ∷ []) ∷ (codes "puncsp", 0x2008 ∷ []) ∷ [])
    ∷ (
    (codes "qfr", 0x1d52e ∷ []) ∷ (codes "qint", 0x2a0c ∷ []) ∷ (codes "qopf", 0x1d562 ∷ []) ∷
    (codes "qprime", 0x2057 ∷ []) ∷ (codes "qscr", 0x1d4c6 ∷ []) ∷ (codes "quaternions", 0x210d ∷ []) ∷
    (codes "quatint", 0x2a16 ∷ []) ∷ (codes "quest", 0x3f ∷ []) ∷ (codes "questeq", 0x225f ∷ []) ∷
    (codes "quot", 0x22 ∷ []) ∷ [])
    ∷ (
    (codes "rAarr", 0x21db ∷ []) ∷ (codes "rArr", 0x21d2 ∷ []) ∷ (codes "rAtail", 0x291c ∷ []) ∷
    (codes "rBarr", 0x290f ∷ []) ∷ (codes "rHar", 0x2964 ∷ []) ∷ (codes "race", 0x223d ∷ 0x331 ∷ []) ∷
    (codes "racute", 0x155 ∷ []) ∷ (codes "radic", 0x221a ∷ []) ∷ (codes "raemptyv", 0x29b3 ∷ []) ∷
    (codes "rang", 0x27e9 ∷ []) ∷ (codes "rangd", 0x2992 ∷ []) ∷ (codes "range", 0x29a5 ∷ []) ∷
    (codes "rangle", 0x27e9 ∷ []) ∷ (codes "raquo", 0xbb ∷ []) ∷ (codes "rarr", 0x2192 ∷ []) ∷
    (codes "rarrap", 0x2975 ∷ []) ∷ (codes "rarrb", 0x21e5 ∷ []) ∷ (codes "rarrbfs", 0x2920 ∷ []) ∷
    (codes "rarrc", 0x2933 ∷ []) ∷ (codes "rarrfs", 0x291e ∷ []) ∷ (codes "rarrhk", 0x21aa ∷ []) ∷
    (codes "rarrlp", 0x21ac ∷ []) ∷ (codes "rarrpl", 0x2945 ∷ []) ∷ (codes "rarrsim", 0x2974 ∷ []) ∷
    (codes "rarrtl", 0x21a3 ∷ []) ∷ (codes "rarrw", 0x219d ∷ []) ∷ (codes "ratail", 0x291a ∷ []) ∷
    (codes "ratio", 0x2236 ∷ []) ∷ (codes "rationals", 0x211a ∷ []) ∷ (codes "rbarr", 0x290d ∷ []) ∷
    (codes "rbbrk", 0x2773 ∷ []) ∷ (codes "rbrace", 0x7d ∷ []) ∷ (codes "rbrack", 0x5d ∷ []) ∷
    (codes "rbrke", 0x298c ∷ []) ∷ (codes "rbrksld", 0x298e ∷ []) ∷ (codes "rbrkslu", 0x2990 ∷ []) ∷
    (codes "rcaron", 0x159 ∷ []) ∷ (codes "rcedil", 0x157 ∷ []) ∷ (codes "rceil", 0x2309 ∷ []) ∷
    (codes "rcub", 0x7d ∷ []) ∷ (codes "rcy", 0x440 ∷ []) ∷ (codes "rdca", 0x2937 ∷ []) ∷
    (codes "rdldhar", 0x2969 ∷ []) ∷ (codes "rdquo", 0x201d ∷ []) ∷ (codes "rdquor", 0x201d ∷ []) ∷
    (codes "rdsh", 0x21b3 ∷ []) ∷ (codes "real", 0x211c ∷ []) ∷ (codes "realine", 0x211b ∷ []) ∷
    (codes "realpart", 0x211c ∷ []) ∷ (codes "reals", 0x211d ∷ []) ∷ (codes "rect", 0x25ad ∷ []) ∷
    (codes "reg", 0xae ∷ []) ∷ (codes "rfisht", 0x297d ∷ []) ∷ (codes "rfloor", 0x230b ∷ []) ∷
    (codes "rfr", 0x1d52f ∷ []) ∷ (codes "rhard", 0x21c1 ∷ []) ∷ (codes "rharu", 0x21c0 ∷ []) ∷
    (codes "rharul", 0x296c ∷ []) ∷ (codes "rho", 0x3c1 ∷ []) ∷ (codes "rhov", 0x3f1 ∷ []) ∷
    (codes "rightarrow", 0x2192 ∷ []) ∷ (codes "rightarrowtail", 0x21a3 ∷ []) ∷
    (codes "rightharpoondown", 0x21c1 ∷ []) ∷ (codes "rightharpoonup", 0x21c0 ∷ []) ∷
    (codes "rightleftarrows", 0x21c4 ∷ []) ∷ (codes "rightleftharpoons", 0x21cc ∷ []) ∷
    (codes "rightrightarrows", 0x21c9 ∷ []) ∷ (codes "rightsquigarrow", 0x219d ∷ []) ∷
    (codes "rightthreetimes", 0x22cc ∷ []) ∷ (codes "ring", 0x2da ∷ []) ∷ (codes "risingdotseq", 0x2253 ∷ []) ∷
    (codes "rlarr", 0x21c4 ∷ []) ∷ (codes "rlhar", 0x21cc ∷ []) ∷ (codes "rlm", 0x200f ∷ []) ∷
    (codes "rmoust", 0x23b1 ∷ []) ∷ (codes "rmoustache", 0x23b1 ∷ []) ∷ (codes "rnmid", 0x2aee ∷ []) ∷
    (codes "roang", 0x27ed ∷ []) ∷ (codes "roarr", 0x21fe ∷ []) ∷ (codes "robrk", 0x27e7 ∷ []) ∷
    (codes "ropar", 0x2986 ∷ []) ∷ (codes "ropf", 0x1d563 ∷ []) ∷ (codes "roplus", 0x2a2e ∷ []) ∷
    (codes "rotimes", 0x2a35 ∷ []) ∷ (codes "rpar", 0x29 ∷ []) ∷ (codes "rpargt", 0x2994 ∷ []) ∷
    (codes "rppolint", 0x2a12 ∷ []) ∷ (codes "rrarr", 0x21c9 ∷ []) ∷ (codes "rsaquo", 0x203a ∷ []) ∷
    (codes "rscr", 0x1d4c7 ∷ []) ∷ (codes "rsh", 0x21b1 ∷ []) ∷ (codes "rsqb", 0x5d ∷ []) ∷
    (codes "rsquo", 0x2019 ∷ []) ∷ (codes "rsquor", 0x2019 ∷ []) ∷ (codes "rthree", 0x22cc ∷ []) ∷
    (codes "rtimes", 0x22ca ∷ []) ∷ (codes "rtri", 0x25b9 ∷ []) ∷ (codes "rtrie", 0x22b5 ∷ []) ∷
    (codes "rtrif", 0x25b8 ∷ []) ∷ (codes "rtriltri", 0x29ce ∷ []) ∷ (codes "ruluhar", 0x2968 ∷ []) ∷
    (codes "rx", 0x211e ∷ []) ∷ [])
    ∷ (
    (codes "sacute", 0x15b ∷ []) ∷ (codes "sbquo", 0x201a ∷ []) ∷ (codes "sc", 0x227b ∷ []) ∷
    (codes "scE", 0x2ab4 ∷ []) ∷ (codes "scap", 0x2ab8 ∷ []) ∷ (codes "scaron", 0x161 ∷ []) ∷
    (codes "sccue", 0x227d ∷ []) ∷ (codes "sce", 0x2ab0 ∷ []) ∷ (codes "scedil", 0x15f ∷ []) ∷
    (codes "scirc", 0x15d ∷ []) ∷ (codes "scnE", 0x2ab6 ∷ []) ∷ (codes "scnap", 0x2aba ∷ []) ∷
    (codes "scnsim", 0x22e9 ∷ []) ∷ (codes "scpolint", 0x2a13 ∷ []) ∷ (codes "scsim", 0x227f ∷ []) ∷
    (codes "scy", 0x441 ∷ []) ∷ (codes "sdot", 0x22c5 ∷ []) ∷ (codes "sdotb", 0x22a1 ∷ []) ∷
    (codes "sdote", 0x2a66 ∷ []) ∷ (codes "seArr", 0x21d8 ∷ []) ∷ (codes "searhk", 0x2925 ∷ []) ∷
    (codes "searr", 0x2198 ∷ []) ∷ (codes "searrow", 0x2198 ∷ []) ∷ (codes "sect", 0xa7 ∷ []) ∷
    (codes "semi", 0x3b ∷ []) ∷ (codes "seswar", 0x2929 ∷ []) ∷ (codes "setminus", 0x2216 ∷ []) ∷
    (codes "setmn", 0x2216 ∷ []) ∷ (codes "sext", 0x2736 ∷ []) ∷ (codes "sfr", 0x1d530 ∷ []) ∷
    (codes "sfrown", 0x2322 ∷ []) ∷ (codes "sharp", 0x266f ∷ []) ∷ (codes "shchcy", 0x449 ∷ []) ∷
    (codes "shcy", 0x448 ∷ []) ∷ (codes "shortmid", 0x2223 ∷ []) ∷ (codes "shortparallel", 0x2225 ∷ []) ∷
    (codes "shy", 0xad ∷ []) ∷ (codes "sigma", 0x3c3 ∷ []) ∷ (codes "sigmaf", 0x3c2 ∷ []) ∷
    (codes "sigmav", 0x3c2 ∷ []) ∷ (codes "sim", 0x223c ∷ []) ∷ (codes "simdot", 0x2a6a ∷ []) ∷
    (codes "sime", 0x2243 ∷ []) ∷ (codes "simeq", 0x2243 ∷ []) ∷ (codes "simg", 0x2a9e ∷ []) ∷
    (codes "simgE", 0x2aa0 ∷ []) ∷ (codes "siml", 0x2a9d ∷ []) ∷ (codes "simlE", 0x2a9f ∷ []) ∷
    (codes "simne", 0x2246 ∷ []) ∷ (codes "simplus", 0x2a24 ∷ []) ∷ (codes "simrarr", 0x2972 ∷ []) ∷
    (codes "slarr", 0x2190 ∷ []) ∷ (codes "smallsetminus", 0x2216 ∷ []) ∷ (codes "smashp", 0x2a33 ∷ []) ∷
    (codes "smeparsl", 0x29e4 ∷ []) ∷ (codes "smid", 0x2223 ∷ []) ∷ (codes "smile", 0x2323 ∷ []) ∷
    (codes "smt", 0x2aaa ∷ []) ∷ (codes "smte", 0x2aac ∷ []) ∷ (codes "smtes", 0x2aac ∷ 0xfe00 ∷ []) ∷
    (codes "softcy", 0x44c ∷ []) ∷ (codes "sol", 0x2f ∷ []) ∷ (codes "solb", 0x29c4 ∷ []) ∷
    (codes "solbar", 0x233f ∷ []) ∷ (codes "sopf", 0x1d564 ∷ []) ∷ (codes "spades", 0x2660 ∷ []) ∷
    (codes "spadesuit", 0x2660 ∷ []) ∷ (codes "spar", 0x2225 ∷ []) ∷ (codes "sqcap", 0x2293 ∷ []) ∷
    (codes "sqcaps", 0x2293 ∷ 0xfe00 ∷ []) ∷ (codes "sqcup", 0x2294 ∷ []) ∷ (codes "sqcups", 0x2294 ∷ 0xfe00 ∷ []) ∷
    (codes "sqsub", 0x228f ∷ []) ∷ (codes "sqsube", 0x2291 ∷ []) ∷ (codes "sqsubset", 0x228f ∷ []) ∷
    (codes "sqsubseteq", 0x2291 ∷ []) ∷ (codes "sqsup", 0x2290 ∷ []) ∷ (codes "sqsupe", 0x2292 ∷ []) ∷
    (codes "sqsupset", 0x2290 ∷ []) ∷ (codes "sqsupseteq", 0x2292 ∷ []) ∷ (codes "squ", 0x25a1 ∷ []) ∷
    (codes "square", 0x25a1 ∷ []) ∷ (codes "squarf", 0x25aa ∷ []) ∷ (codes "squf", 0x25aa ∷ []) ∷
    (codes "srarr", 0x2192 ∷ []) ∷ (codes "sscr", 0x1d4c8 ∷ []) ∷ (codes "ssetmn", 0x2216 ∷ []) ∷
    (codes "ssmile", 0x2323 ∷ []) ∷ (codes "sstarf", 0x22c6 ∷ []) ∷ (codes "star", 0x2606 ∷ []) ∷
    (codes "starf", 0x2605 ∷ []) ∷ (codes "straightepsilon", 0x3f5 ∷ []) ∷ (codes "straightphi", 0x3d5 ∷ []) ∷
    (codes "strns", 0xaf ∷ []) ∷ (codes "sub", 0x2282 ∷ []) ∷ (codes "subE", 0x2ac5 ∷ []) ∷
    (codes "subdot", 0x2abd ∷ []) ∷ (codes "sube", 0x2286 ∷ []) ∷ (codes "subedot", 0x2ac3 ∷ []) ∷
    (codes "submult", 0x2ac1 ∷ []) ∷ (codes "subnE", 0x2acb ∷ []) ∷ (codes "subne", 0x228a ∷ []) ∷
    (codes "subplus", 0x2abf ∷ []) ∷ (codes "subrarr", 0x2979 ∷ []) ∷ (codes "subset", 0x2282 ∷ []) ∷
    (codes "subseteq", 0x2286 ∷ []) ∷ (codes "subseteqq", 0x2ac5 ∷ []) ∷ (codes "subsetneq", 0x228a ∷ []) ∷
    (codes "subsetneqq", 0x2acb ∷ []) ∷ (codes "subsim", 0x2ac7 ∷ []) ∷ (codes "subsub", 0x2ad5 ∷ []) ∷
    (codes "subsup", 0x2ad3 ∷ []) ∷ (codes "succ", 0x227b ∷ []) ∷ (codes "succapprox", 0x2ab8 ∷ []) ∷
    (codes "succcurlyeq", 0x227d ∷ []) ∷ (codes "succeq", 0x2ab0 ∷ []) ∷ (codes "succnapprox", 0x2aba ∷ []) ∷
    (codes "succneqq", 0x2ab6 ∷ []) ∷ (codes "succnsim", 0x22e9 ∷ []) ∷ (codes "succsim", 0x227f ∷ []) ∷
    (codes "sum", 0x2211 ∷ []) ∷ (codes "sung", 0x266a ∷ []) ∷ (codes "sup", 0x2283 ∷ []) ∷ (codes "sup1", 0xb9 ∷ []) ∷
    (codes "sup2", 0xb2 ∷ []) ∷ (codes "sup3", 0xb3 ∷ []) ∷ (codes "supE", 0x2ac6 ∷ []) ∷
    (codes "supdot", 0x2abe ∷ []) ∷ (codes "supdsub", 0x2ad8 ∷ []) ∷ (codes "supe", 0x2287 ∷ []) ∷
    (codes "supedot", 0x2ac4 ∷ []) ∷ (codes "suphsol", 0x27c9 ∷ []) ∷ (codes "suphsub", 0x2ad7 ∷ []) ∷
    (codes "suplarr", 0x297b ∷ []) ∷ (codes "supmult", 0x2ac2 ∷ []) ∷ (codes "supnE", 0x2acc ∷ []) ∷
    (codes "supne", 0x228b ∷ []) ∷ (codes "supplus", 0x2ac0 ∷ []) ∷ (codes "supset", 0x2283 ∷ []) ∷
    (codes "supseteq", 0x2287 ∷ []) ∷ (codes "supseteqq", 0x2ac6 ∷ []) ∷ (codes "supsetneq", 0x228b ∷ []) ∷
    (codes "supsetneqq", 0x2acc ∷ []) ∷ (codes "supsim", 0x2ac8 ∷ []) ∷ (codes "supsub", 0x2ad4 ∷ []) ∷
    (codes "supsup", 0x2ad6 ∷ []) ∷ (codes "swArr", 0x21d9 ∷ []) ∷ (codes "swarhk", 0x2926 ∷ []) ∷
    (codes "swarr", 0x2199 ∷ []) ∷ (codes "swarrow", 0x2199 ∷ []) ∷ (codes "swnwar", 0x292a ∷ []) ∷
    (codes "szlig", 0xdf ∷ []) ∷ [])
    ∷ (
    (codes "target", 0x2316 ∷ []) ∷ (codes "tau", 0x3c4 ∷ []) ∷ (codes "tbrk", 0x23b4 ∷ []) ∷
    (codes "tcaron", 0x165 ∷ []) ∷ (codes "tcedil", 0x163 ∷ []) ∷ (codes "tcy", 0x442 ∷ []) ∷
    (codes "tdot", 0x20db ∷ []) ∷ (codes "telrec", 0x2315 ∷ []) ∷ (codes "tfr", 0x1d531 ∷ []) ∷
    (codes "there4", 0x2234 ∷ []) ∷ (codes "therefore", 0x2234 ∷ []) ∷ (codes "theta", 0x3b8 ∷ []) ∷
    (codes "thetasym", 0x3d1 ∷ []) ∷ (codes "thetav", 0x3d1 ∷ []) ∷ (codes "thickapprox", 0x2248 ∷ []) ∷
    (codes "thicksim", 0x223c ∷ []) ∷ (codes "thinsp", 0x2009 ∷ []) ∷ (codes "thkap", 0x2248 ∷ []) ∷
    (codes "thksim", 0x223c ∷ []) ∷ (codes "thorn", 0xfe ∷ []) ∷ (codes "tilde", 0x2dc ∷ []) ∷
    (codes "times", 0xd7 ∷ []) ∷ (codes "timesb", 0x22a0 ∷ []) ∷ (codes "timesbar", 0x2a31 ∷ []) ∷
    (codes "timesd", 0x2a30 ∷ []) ∷ (codes "tint", 0x222d ∷ []) ∷ (codes "toea", 0x2928 ∷ []) ∷
    (codes "top", 0x22a4 ∷ []) ∷ (codes "topbot", 0x2336 ∷ []) ∷ (codes "topcir", 0x2af1 ∷ []) ∷
    (codes "topf", 0x1d565 ∷ []) ∷ (codes "topfork", 0x2ada ∷ []) ∷ (codes "tosa", 0x2929 ∷ []) ∷
    (codes "tprime", 0x2034 ∷ []) ∷ (codes "trade", 0x2122 ∷ []) ∷ (codes "triangle", 0x25b5 ∷ []) ∷
    (codes "triangledown", 0x25bf ∷ []) ∷ (codes "triangleleft", 0x25c3 ∷ []) ∷ (codes "trianglelefteq", 0x22b4 ∷ []) ∷
    (codes "triangleq", 0x225c ∷ []) ∷ (codes "triangleright", 0x25b9 ∷ []) ∷ (codes "trianglerighteq", 0x22b5 ∷ []) ∷
    (codes "tridot", 0x25ec ∷ []) ∷ (codes "trie", 0x225c ∷ []) ∷ (codes "triminus", 0x2a3a ∷ []) ∷
    (codes "triplus", 0x2a39 ∷ []) ∷ (codes "trisb", 0x29cd ∷ []) ∷ (codes "tritime", 0x2a3b ∷ []) ∷
    (codes "trpezium", 0x23e2 ∷ []) ∷ (codes "tscr", 0x1d4c9 ∷ []) ∷ (codes "tscy", 0x446 ∷ []) ∷
    (codes "tshcy", 0x45b ∷ []) ∷ (codes "tstrok", 0x167 ∷ []) ∷ (codes "twixt", 0x226c ∷ []) ∷
    (codes "twoheadleftarrow", 0x219e ∷ []) ∷ (codes "twoheadrightarrow", 0x21a0 ∷ []) ∷ [])
    ∷ (
    (codes "uArr", 0x21d1 ∷ []) ∷ (codes "uHar", 0x2963 ∷ []) ∷ (codes "uacute", 0xfa ∷ []) ∷
    (codes "uarr", 0x2191 ∷ []) ∷ (codes "ubrcy", 0x45e ∷ []) ∷ (codes "ubreve", 0x16d ∷ []) ∷
    (codes "ucirc", 0xfb ∷ []) ∷ (codes "ucy", 0x443 ∷ []) ∷ (codes "udarr", 0x21c5 ∷ []) ∷
    (codes "udblac", 0x171 ∷ []) ∷ (codes "udhar", 0x296e ∷ []) ∷ (codes "ufisht", 0x297e ∷ []) ∷
    (codes "ufr", 0x1d532 ∷ []) ∷ (codes "ugrave", 0xf9 ∷ []) ∷ (codes "uharl", 0x21bf ∷ []) ∷
    (codes "uharr", 0x21be ∷ []) ∷ (codes "uhblk", 0x2580 ∷ []) ∷ (codes "ulcorn", 0x231c ∷ []) ∷
    (codes "ulcorner", 0x231c ∷ []) ∷ (codes "ulcrop", 0x230f ∷ []) ∷ (codes "ultri", 0x25f8 ∷ []) ∷
    (codes "umacr", 0x16b ∷ []) ∷ (codes "uml", 0xa8 ∷ []) ∷ (codes "uogon", 0x173 ∷ []) ∷
    (codes "uopf", 0x1d566 ∷ []) ∷ (codes "uparrow", 0x2191 ∷ []) ∷ (codes "updownarrow", 0x2195 ∷ []) ∷
    (codes "upharpoonleft", 0x21bf ∷ []) ∷ (codes "upharpoonright", 0x21be ∷ []) ∷ (codes "uplus", 0x228e ∷ []) ∷
    (codes "upsi", 0x3c5 ∷ []) ∷ (codes "upsih", 0x3d2 ∷ []) ∷ (codes "upsilon", 0x3c5 ∷ []) ∷
    (codes "upuparrows", 0x21c8 ∷ []) ∷ (codes "urcorn", 0x231d ∷ []) ∷ (codes "urcorner", 0x231d ∷ []) ∷
    (codes "urcrop", 0x230e ∷ []) ∷ (codes "uring", 0x16f ∷ []) ∷ (codes "urtri", 0x25f9 ∷ []) ∷
    (codes "uscr", 0x1d4ca ∷ []) ∷ (codes "utdot", 0x22f0 ∷ []) ∷ (codes "utilde", 0x169 ∷ []) ∷
    (codes "utri", 0x25b5 ∷ []) ∷ (codes "utrif", 0x25b4 ∷ []) ∷ (codes "uuarr", 0x21c8 ∷ []) ∷
    (codes "uuml", 0xfc ∷ []) ∷ (codes "uwangle", 0x29a7 ∷ []) ∷ [])
    ∷ (
    (codes "vArr", 0x21d5 ∷ []) ∷ (codes "vBar", 0x2ae8 ∷ []) ∷ (codes "vBarv", 0x2ae9 ∷ []) ∷
    (codes "vDash", 0x22a8 ∷ []) ∷ (codes "vangrt", 0x299c ∷ []) ∷ (codes "varepsilon", 0x3f5 ∷ []) ∷
    (codes "varkappa", 0x3f0 ∷ []) ∷ (codes "varnothing", 0x2205 ∷ []) ∷ (codes "varphi", 0x3d5 ∷ []) ∷
    (codes "varpi", 0x3d6 ∷ []) ∷ (codes "varpropto", 0x221d ∷ []) ∷ (codes "varr", 0x2195 ∷ []) ∷
    (codes "varrho", 0x3f1 ∷ []) ∷ (codes "varsigma", 0x3c2 ∷ []) ∷ (codes "varsubsetneq", 0x228a ∷ 0xfe00 ∷ []) ∷
    (codes "varsubsetneqq", 0x2acb ∷ 0xfe00 ∷ []) ∷ (codes "varsupsetneq", 0x228b ∷ 0xfe00 ∷ []) ∷
    (codes "varsupsetneqq", 0x2acc ∷ 0xfe00 ∷ []) ∷ (codes "vartheta", 0x3d1 ∷ []) ∷
    (codes "vartriangleleft", 0x22b2 ∷ []) ∷ (codes "vartriangleright", 0x22b3 ∷ []) ∷ (codes "vcy", 0x432 ∷ []) ∷
    (codes "vdash", 0x22a2 ∷ []) ∷ (codes "vee", 0x2228 ∷ []) ∷ (codes "veebar", 0x22bb ∷ []) ∷
    (codes "veeeq", 0x225a ∷ []) ∷ (codes "vellip", 0x22ee ∷ []) ∷ (codes "verbar", 0x7c ∷ []) ∷
    (codes "vert", 0x7c ∷ []) ∷ (codes "vfr", 0x1d533 ∷ []) ∷ (codes "vltri", 0x22b2 ∷ []) ∷
    (codes "vnsub", 0x2282 ∷ 0x20d2 ∷ []) ∷ (codes "vnsup", 0x2283 ∷ 0x20d2 ∷ []) ∷ (codes "vopf", 0x1d567 ∷ []) ∷
    (codes "vprop", 0x221d ∷ []) ∷ (codes "vrtri", 0x22b3 ∷ []) ∷ (codes "vscr", 0x1d4cb ∷ []) ∷
    (codes "vsubnE", 0x2acb ∷ 0xfe00 ∷ []) ∷ (codes "vsubne", 0x228a ∷ 0xfe00 ∷ []) ∷
    (codes "vsupnE", 0x2acc ∷ 0xfe00 ∷ []) ∷ (codes "vsupne", 0x228b ∷ 0xfe00 ∷ []) ∷ (codes "vzigzag", 0x299a ∷ []) ∷
    [])
    ∷ (
    (codes "wcirc", 0x175 ∷ []) ∷ (codes "wedbar", 0x2a5f ∷ []) ∷ (codes "wedge", 0x2227 ∷ []) ∷
    (codes "wedgeq", 0x2259 ∷ []) ∷ (codes "weierp", 0x2118 ∷ []) ∷ (codes "wfr", 0x1d534 ∷ []) ∷
    (codes "wopf", 0x1d568 ∷ []) ∷ (codes "wp", 0x2118 ∷ []) ∷ (codes "wr", 0x2240 ∷ []) ∷
    (codes "wreath", 0x2240 ∷ []) ∷ (codes "wscr", 0x1d4cc ∷ []) ∷ [])
    ∷ (
    (codes "xcap", 0x22c2 ∷ []) ∷ (codes "xcirc", 0x25ef ∷ []) ∷ (codes "xcup", 0x22c3 ∷ []) ∷
    (codes "xdtri", 0x25bd ∷ []) ∷ (codes "xfr", 0x1d535 ∷ []) ∷ (codes "xhArr", 0x27fa ∷ []) ∷
    (codes "xharr", 0x27f7 ∷ []) ∷ (codes "xi", 0x3be ∷ []) ∷ (codes "xlArr", 0x27f8 ∷ []) ∷
    (codes "xlarr", 0x27f5 ∷ []) ∷ (codes "xmap", 0x27fc ∷ []) ∷ (codes "xnis", 0x22fb ∷ []) ∷
    (codes "xodot", 0x2a00 ∷ []) ∷ (codes "xopf", 0x1d569 ∷ []) ∷ (codes "xoplus", 0x2a01 ∷ []) ∷
    (codes "xotime", 0x2a02 ∷ []) ∷ (codes "xrArr", 0x27f9 ∷ []) ∷ (codes "xrarr", 0x27f6 ∷ []) ∷
    (codes "xscr", 0x1d4cd ∷ []) ∷ (codes "xsqcup", 0x2a06 ∷ []) ∷ (codes "xuplus", 0x2a04 ∷ []) ∷
    (codes "xutri", 0x25b3 ∷ []) ∷ (codes "xvee", 0x22c1 ∷ []) ∷ (codes "xwedge", 0x22c0 ∷ []) ∷ [])
    ∷ (
    (codes "yacute", 0xfd ∷ []) ∷ (codes "yacy", 0x44f ∷ []) ∷ (codes "ycirc", 0x177 ∷ []) ∷ (codes "ycy", 0x44b ∷ []) ∷
    (codes "yen", 0xa5 ∷ []) ∷ (codes "yfr", 0x1d536 ∷ []) ∷ (codes "yicy", 0x457 ∷ []) ∷ (codes "yopf", 0x1d56a ∷ []) ∷
    (codes "yscr", 0x1d4ce ∷ []) ∷ (codes "yucy", 0x44e ∷ []) ∷ (codes "yuml", 0xff ∷ []) ∷ [])
    ∷ (
    (codes "zacute", 0x17a ∷ []) ∷ (codes "zcaron", 0x17e ∷ []) ∷ (codes "zcy", 0x437 ∷ []) ∷
    (codes "zdot", 0x17c ∷ []) ∷ (codes "zeetrf", 0x2128 ∷ []) ∷ (codes "zeta", 0x3b6 ∷ []) ∷
    (codes "zfr", 0x1d537 ∷ []) ∷ (codes "zhcy", 0x436 ∷ []) ∷ (codes "zigrarr", 0x21dd ∷ []) ∷
    (codes "zopf", 0x1d56b ∷ []) ∷ (codes "zscr", 0x1d4cf ∷ []) ∷ (codes "zwj", 0x200d ∷ []) ∷
    (codes "zwnj", 0x200c ∷ []) ∷ [])
    ∷ []
