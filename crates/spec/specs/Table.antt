-- The built-in grammar (SPIR-V 1.5 revision 4), item by item: every row with its operands, then kind by kind
-- every enumerant with its parameters. Quantifiers: 0 One, 1 ZeroOrOne, 2 ZeroOrMore. The names are the crate's.
-- Made by tools/make_table.py from the files of the crate rspirv 0.11.0+1.5.4. Not to be changed by hand.
use Rattle.std.specs.Prelude.{List, [], ◌∷◌}
use Rattle.spec.specs.Grammar.{Item, row, operand, enumerant, parameter}

-- the built-in grammar's items
unfoldable pub table : List Item
table =
    row 0 ∷  -- Nop
    row 1 ∷ operand 46 0 ∷ operand 47 0 ∷  -- Undef
    row 2 ∷ operand 40 0 ∷  -- SourceContinued
    row 3 ∷ operand 9 0 ∷ operand 34 0 ∷ operand 33 1 ∷ operand 40 1 ∷  -- Source
    row 4 ∷ operand 40 0 ∷  -- SourceExtension
    row 5 ∷ operand 33 0 ∷ operand 40 0 ∷  -- Name
    row 6 ∷ operand 33 0 ∷ operand 34 0 ∷ operand 40 0 ∷  -- MemberName
    row 7 ∷ operand 47 0 ∷ operand 40 0 ∷  -- String
    row 8 ∷ operand 33 0 ∷ operand 34 0 ∷ operand 34 0 ∷  -- Line
    row 10 ∷ operand 40 0 ∷  -- Extension
    row 11 ∷ operand 47 0 ∷ operand 40 0 ∷  -- ExtInstImport
    row 12 ∷ operand 46 0 ∷ operand 47 0 ∷ operand 33 0 ∷ operand 35 0 ∷ operand 33 2 ∷  -- ExtInst
    row 14 ∷ operand 11 0 ∷ operand 12 0 ∷  -- MemoryModel
    row 15 ∷ operand 10 0 ∷ operand 33 0 ∷ operand 40 0 ∷ operand 33 2 ∷  -- EntryPoint
    row 16 ∷ operand 33 0 ∷ operand 13 0 ∷  -- ExecutionMode
    row 17 ∷ operand 30 0 ∷  -- Capability
    row 19 ∷ operand 47 0 ∷  -- TypeVoid
    row 20 ∷ operand 47 0 ∷  -- TypeBool
    row 21 ∷ operand 47 0 ∷ operand 34 0 ∷ operand 34 0 ∷  -- TypeInt
    row 22 ∷ operand 47 0 ∷ operand 34 0 ∷  -- TypeFloat
    row 23 ∷ operand 47 0 ∷ operand 33 0 ∷ operand 34 0 ∷  -- TypeVector
    row 24 ∷ operand 47 0 ∷ operand 33 0 ∷ operand 34 0 ∷  -- TypeMatrix
    row 25 ∷ operand 47 0 ∷ operand 33 0 ∷ operand 15 0 ∷ operand 34 0 ∷ operand 34 0 ∷ operand 34 0 ∷ operand 34 0 ∷ operand 18 0 ∷ operand 23 1 ∷  -- TypeImage
    row 26 ∷ operand 47 0 ∷  -- TypeSampler
    row 27 ∷ operand 47 0 ∷ operand 33 0 ∷  -- TypeSampledImage
    row 28 ∷ operand 47 0 ∷ operand 33 0 ∷ operand 33 0 ∷  -- TypeArray
    row 29 ∷ operand 47 0 ∷ operand 33 0 ∷  -- TypeRuntimeArray
    row 30 ∷ operand 47 0 ∷ operand 33 2 ∷  -- TypeStruct
    row 31 ∷ operand 47 0 ∷ operand 40 0 ∷  -- TypeOpaque
    row 32 ∷ operand 47 0 ∷ operand 14 0 ∷ operand 33 0 ∷  -- TypePointer
    row 33 ∷ operand 47 0 ∷ operand 33 0 ∷ operand 33 2 ∷  -- TypeFunction
    row 34 ∷ operand 47 0 ∷  -- TypeEvent
    row 35 ∷ operand 47 0 ∷  -- TypeDeviceEvent
    row 36 ∷ operand 47 0 ∷  -- TypeReserveId
    row 37 ∷ operand 47 0 ∷  -- TypeQueue
    row 38 ∷ operand 47 0 ∷ operand 23 0 ∷  -- TypePipe
    row 39 ∷ operand 33 0 ∷ operand 14 0 ∷  -- TypeForwardPointer
    row 41 ∷ operand 46 0 ∷ operand 47 0 ∷  -- ConstantTrue
    row 42 ∷ operand 46 0 ∷ operand 47 0 ∷  -- ConstantFalse
    row 43 ∷ operand 46 0 ∷ operand 47 0 ∷ operand 48 0 ∷  -- Constant
    row 44 ∷ operand 46 0 ∷ operand 47 0 ∷ operand 33 2 ∷  -- ConstantComposite
    row 45 ∷ operand 46 0 ∷ operand 47 0 ∷ operand 16 0 ∷ operand 34 0 ∷ operand 17 0 ∷  -- ConstantSampler
    row 46 ∷ operand 46 0 ∷ operand 47 0 ∷  -- ConstantNull
    row 48 ∷ operand 46 0 ∷ operand 47 0 ∷  -- SpecConstantTrue
    row 49 ∷ operand 46 0 ∷ operand 47 0 ∷  -- SpecConstantFalse
    row 50 ∷ operand 46 0 ∷ operand 47 0 ∷ operand 48 0 ∷  -- SpecConstant
    row 51 ∷ operand 46 0 ∷ operand 47 0 ∷ operand 33 2 ∷  -- SpecConstantComposite
    row 52 ∷ operand 46 0 ∷ operand 47 0 ∷ operand 39 0 ∷  -- SpecConstantOp
    row 54 ∷ operand 46 0 ∷ operand 47 0 ∷ operand 5 0 ∷ operand 33 0 ∷  -- Function
    row 55 ∷ operand 46 0 ∷ operand 47 0 ∷  -- FunctionParameter
    row 56 ∷  -- FunctionEnd
    row 57 ∷ operand 46 0 ∷ operand 47 0 ∷ operand 33 0 ∷ operand 33 2 ∷  -- FunctionCall
    row 59 ∷ operand 46 0 ∷ operand 47 0 ∷ operand 14 0 ∷ operand 33 1 ∷  -- Variable
    row 60 ∷ operand 46 0 ∷ operand 47 0 ∷ operand 33 0 ∷ operand 33 0 ∷ operand 33 0 ∷  -- ImageTexelPointer
    row 61 ∷ operand 46 0 ∷ operand 47 0 ∷ operand 33 0 ∷ operand 7 1 ∷  -- Load
    row 62 ∷ operand 33 0 ∷ operand 33 0 ∷ operand 7 1 ∷  -- Store
    row 63 ∷ operand 33 0 ∷ operand 33 0 ∷ operand 7 1 ∷ operand 7 1 ∷  -- CopyMemory
    row 64 ∷ operand 33 0 ∷ operand 33 0 ∷ operand 33 0 ∷ operand 7 1 ∷ operand 7 1 ∷  -- CopyMemorySized
    row 65 ∷ operand 46 0 ∷ operand 47 0 ∷ operand 33 0 ∷ operand 33 2 ∷  -- AccessChain
    row 66 ∷ operand 46 0 ∷ operand 47 0 ∷ operand 33 0 ∷ operand 33 2 ∷  -- InBoundsAccessChain
    row 67 ∷ operand 46 0 ∷ operand 47 0 ∷ operand 33 0 ∷ operand 33 0 ∷ operand 33 2 ∷  -- PtrAccessChain
    row 68 ∷ operand 46 0 ∷ operand 47 0 ∷ operand 33 0 ∷ operand 34 0 ∷  -- ArrayLength
    row 69 ∷ operand 46 0 ∷ operand 47 0 ∷ operand 33 0 ∷  -- GenericPtrMemSemantics
    row 70 ∷ operand 46 0 ∷ operand 47 0 ∷ operand 33 0 ∷ operand 33 0 ∷ operand 33 2 ∷  -- InBoundsPtrAccessChain
    row 71 ∷ operand 33 0 ∷ operand 25 0 ∷  -- Decorate
    row 72 ∷ operand 33 0 ∷ operand 34 0 ∷ operand 25 0 ∷  -- MemberDecorate
    row 73 ∷ operand 47 0 ∷  -- DecorationGroup
    row 74 ∷ operand 33 0 ∷ operand 33 2 ∷  -- GroupDecorate
    row 75 ∷ operand 33 0 ∷ operand 50 2 ∷  -- GroupMemberDecorate
    row 77 ∷ operand 46 0 ∷ operand 47 0 ∷ operand 33 0 ∷ operand 33 0 ∷  -- VectorExtractDynamic
    row 78 ∷ operand 46 0 ∷ operand 47 0 ∷ operand 33 0 ∷ operand 33 0 ∷ operand 33 0 ∷  -- VectorInsertDynamic
    row 79 ∷ operand 46 0 ∷ operand 47 0 ∷ operand 33 0 ∷ operand 33 0 ∷ operand 34 2 ∷  -- VectorShuffle
    row 80 ∷ operand 46 0 ∷ operand 47 0 ∷ operand 33 2 ∷  -- CompositeConstruct
    row 81 ∷ operand 46 0 ∷ operand 47 0 ∷ operand 33 0 ∷ operand 34 2 ∷  -- CompositeExtract
    row 82 ∷ operand 46 0 ∷ operand 47 0 ∷ operand 33 0 ∷ operand 33 0 ∷ operand 34 2 ∷  -- CompositeInsert
    row 83 ∷ operand 46 0 ∷ operand 47 0 ∷ operand 33 0 ∷  -- CopyObject
    row 84 ∷ operand 46 0 ∷ operand 47 0 ∷ operand 33 0 ∷  -- Transpose
    row 86 ∷ operand 46 0 ∷ operand 47 0 ∷ operand 33 0 ∷ operand 33 0 ∷  -- SampledImage
    row 87 ∷ operand 46 0 ∷ operand 47 0 ∷ operand 33 0 ∷ operand 33 0 ∷ operand 1 1 ∷  -- ImageSampleImplicitLod
    row 88 ∷ operand 46 0 ∷ operand 47 0 ∷ operand 33 0 ∷ operand 33 0 ∷ operand 1 0 ∷  -- ImageSampleExplicitLod
    row 89 ∷ operand 46 0 ∷ operand 47 0 ∷ operand 33 0 ∷ operand 33 0 ∷ operand 33 0 ∷ operand 1 1 ∷  -- ImageSampleDrefImplicitLod
    row 90 ∷ operand 46 0 ∷ operand 47 0 ∷ operand 33 0 ∷ operand 33 0 ∷ operand 33 0 ∷ operand 1 0 ∷  -- ImageSampleDrefExplicitLod
    row 91 ∷ operand 46 0 ∷ operand 47 0 ∷ operand 33 0 ∷ operand 33 0 ∷ operand 1 1 ∷  -- ImageSampleProjImplicitLod
    row 92 ∷ operand 46 0 ∷ operand 47 0 ∷ operand 33 0 ∷ operand 33 0 ∷ operand 1 0 ∷  -- ImageSampleProjExplicitLod
    row 93 ∷ operand 46 0 ∷ operand 47 0 ∷ operand 33 0 ∷ operand 33 0 ∷ operand 33 0 ∷ operand 1 1 ∷  -- ImageSampleProjDrefImplicitLod
    row 94 ∷ operand 46 0 ∷ operand 47 0 ∷ operand 33 0 ∷ operand 33 0 ∷ operand 33 0 ∷ operand 1 0 ∷  -- ImageSampleProjDrefExplicitLod
    row 95 ∷ operand 46 0 ∷ operand 47 0 ∷ operand 33 0 ∷ operand 33 0 ∷ operand 1 1 ∷  -- ImageFetch
    row 96 ∷ operand 46 0 ∷ operand 47 0 ∷ operand 33 0 ∷ operand 33 0 ∷ operand 33 0 ∷ operand 1 1 ∷  -- ImageGather
    row 97 ∷ operand 46 0 ∷ operand 47 0 ∷ operand 33 0 ∷ operand 33 0 ∷ operand 33 0 ∷ operand 1 1 ∷  -- ImageDrefGather
    row 98 ∷ operand 46 0 ∷ operand 47 0 ∷ operand 33 0 ∷ operand 33 0 ∷ operand 1 1 ∷  -- ImageRead
    row 99 ∷ operand 33 0 ∷ operand 33 0 ∷ operand 33 0 ∷ operand 1 1 ∷  -- ImageWrite
    row 100 ∷ operand 46 0 ∷ operand 47 0 ∷ operand 33 0 ∷  -- Image
    row 101 ∷ operand 46 0 ∷ operand 47 0 ∷ operand 33 0 ∷  -- ImageQueryFormat
    row 102 ∷ operand 46 0 ∷ operand 47 0 ∷ operand 33 0 ∷  -- ImageQueryOrder
    row 103 ∷ operand 46 0 ∷ operand 47 0 ∷ operand 33 0 ∷ operand 33 0 ∷  -- ImageQuerySizeLod
    row 104 ∷ operand 46 0 ∷ operand 47 0 ∷ operand 33 0 ∷  -- ImageQuerySize
    row 105 ∷ operand 46 0 ∷ operand 47 0 ∷ operand 33 0 ∷ operand 33 0 ∷  -- ImageQueryLod
    row 106 ∷ operand 46 0 ∷ operand 47 0 ∷ operand 33 0 ∷  -- ImageQueryLevels
    row 107 ∷ operand 46 0 ∷ operand 47 0 ∷ operand 33 0 ∷  -- ImageQuerySamples
    row 109 ∷ operand 46 0 ∷ operand 47 0 ∷ operand 33 0 ∷  -- ConvertFToU
    row 110 ∷ operand 46 0 ∷ operand 47 0 ∷ operand 33 0 ∷  -- ConvertFToS
    row 111 ∷ operand 46 0 ∷ operand 47 0 ∷ operand 33 0 ∷  -- ConvertSToF
    row 112 ∷ operand 46 0 ∷ operand 47 0 ∷ operand 33 0 ∷  -- ConvertUToF
    row 113 ∷ operand 46 0 ∷ operand 47 0 ∷ operand 33 0 ∷  -- UConvert
    row 114 ∷ operand 46 0 ∷ operand 47 0 ∷ operand 33 0 ∷  -- SConvert
    row 115 ∷ operand 46 0 ∷ operand 47 0 ∷ operand 33 0 ∷  -- FConvert
    row 116 ∷ operand 46 0 ∷ operand 47 0 ∷ operand 33 0 ∷  -- QuantizeToF16
    row 117 ∷ operand 46 0 ∷ operand 47 0 ∷ operand 33 0 ∷  -- ConvertPtrToU
    row 118 ∷ operand 46 0 ∷ operand 47 0 ∷ operand 33 0 ∷  -- SatConvertSToU
    row 119 ∷ operand 46 0 ∷ operand 47 0 ∷ operand 33 0 ∷  -- SatConvertUToS
    row 120 ∷ operand 46 0 ∷ operand 47 0 ∷ operand 33 0 ∷  -- ConvertUToPtr
    row 121 ∷ operand 46 0 ∷ operand 47 0 ∷ operand 33 0 ∷  -- PtrCastToGeneric
    row 122 ∷ operand 46 0 ∷ operand 47 0 ∷ operand 33 0 ∷  -- GenericCastToPtr
    row 123 ∷ operand 46 0 ∷ operand 47 0 ∷ operand 33 0 ∷ operand 14 0 ∷  -- GenericCastToPtrExplicit
    row 124 ∷ operand 46 0 ∷ operand 47 0 ∷ operand 33 0 ∷  -- Bitcast
    row 126 ∷ operand 46 0 ∷ operand 47 0 ∷ operand 33 0 ∷  -- SNegate
    row 127 ∷ operand 46 0 ∷ operand 47 0 ∷ operand 33 0 ∷  -- FNegate
    row 128 ∷ operand 46 0 ∷ operand 47 0 ∷ operand 33 0 ∷ operand 33 0 ∷  -- IAdd
    row 129 ∷ operand 46 0 ∷ operand 47 0 ∷ operand 33 0 ∷ operand 33 0 ∷  -- FAdd
    row 130 ∷ operand 46 0 ∷ operand 47 0 ∷ operand 33 0 ∷ operand 33 0 ∷  -- ISub
    row 131 ∷ operand 46 0 ∷ operand 47 0 ∷ operand 33 0 ∷ operand 33 0 ∷  -- FSub
    row 132 ∷ operand 46 0 ∷ operand 47 0 ∷ operand 33 0 ∷ operand 33 0 ∷  -- IMul
    row 133 ∷ operand 46 0 ∷ operand 47 0 ∷ operand 33 0 ∷ operand 33 0 ∷  -- FMul
    row 134 ∷ operand 46 0 ∷ operand 47 0 ∷ operand 33 0 ∷ operand 33 0 ∷  -- UDiv
    row 135 ∷ operand 46 0 ∷ operand 47 0 ∷ operand 33 0 ∷ operand 33 0 ∷  -- SDiv
    row 136 ∷ operand 46 0 ∷ operand 47 0 ∷ operand 33 0 ∷ operand 33 0 ∷  -- FDiv
    row 137 ∷ operand 46 0 ∷ operand 47 0 ∷ operand 33 0 ∷ operand 33 0 ∷  -- UMod
    row 138 ∷ operand 46 0 ∷ operand 47 0 ∷ operand 33 0 ∷ operand 33 0 ∷  -- SRem
    row 139 ∷ operand 46 0 ∷ operand 47 0 ∷ operand 33 0 ∷ operand 33 0 ∷  -- SMod
    row 140 ∷ operand 46 0 ∷ operand 47 0 ∷ operand 33 0 ∷ operand 33 0 ∷  -- FRem
    row 141 ∷ operand 46 0 ∷ operand 47 0 ∷ operand 33 0 ∷ operand 33 0 ∷  -- FMod
    row 142 ∷ operand 46 0 ∷ operand 47 0 ∷ operand 33 0 ∷ operand 33 0 ∷  -- VectorTimesScalar
    row 143 ∷ operand 46 0 ∷ operand 47 0 ∷ operand 33 0 ∷ operand 33 0 ∷  -- MatrixTimesScalar
    row 144 ∷ operand 46 0 ∷ operand 47 0 ∷ operand 33 0 ∷ operand 33 0 ∷  -- VectorTimesMatrix
    row 145 ∷ operand 46 0 ∷ operand 47 0 ∷ operand 33 0 ∷ operand 33 0 ∷  -- MatrixTimesVector
    row 146 ∷ operand 46 0 ∷ operand 47 0 ∷ operand 33 0 ∷ operand 33 0 ∷  -- MatrixTimesMatrix
    row 147 ∷ operand 46 0 ∷ operand 47 0 ∷ operand 33 0 ∷ operand 33 0 ∷  -- OuterProduct
    row 148 ∷ operand 46 0 ∷ operand 47 0 ∷ operand 33 0 ∷ operand 33 0 ∷  -- Dot
    row 149 ∷ operand 46 0 ∷ operand 47 0 ∷ operand 33 0 ∷ operand 33 0 ∷  -- IAddCarry
    row 150 ∷ operand 46 0 ∷ operand 47 0 ∷ operand 33 0 ∷ operand 33 0 ∷  -- ISubBorrow
    row 151 ∷ operand 46 0 ∷ operand 47 0 ∷ operand 33 0 ∷ operand 33 0 ∷  -- UMulExtended
    row 152 ∷ operand 46 0 ∷ operand 47 0 ∷ operand 33 0 ∷ operand 33 0 ∷  -- SMulExtended
    row 154 ∷ operand 46 0 ∷ operand 47 0 ∷ operand 33 0 ∷  -- Any
    row 155 ∷ operand 46 0 ∷ operand 47 0 ∷ operand 33 0 ∷  -- All
    row 156 ∷ operand 46 0 ∷ operand 47 0 ∷ operand 33 0 ∷  -- IsNan
    row 157 ∷ operand 46 0 ∷ operand 47 0 ∷ operand 33 0 ∷  -- IsInf
    row 158 ∷ operand 46 0 ∷ operand 47 0 ∷ operand 33 0 ∷  -- IsFinite
    row 159 ∷ operand 46 0 ∷ operand 47 0 ∷ operand 33 0 ∷  -- IsNormal
    row 160 ∷ operand 46 0 ∷ operand 47 0 ∷ operand 33 0 ∷  -- SignBitSet
    row 161 ∷ operand 46 0 ∷ operand 47 0 ∷ operand 33 0 ∷ operand 33 0 ∷  -- LessOrGreater
    row 162 ∷ operand 46 0 ∷ operand 47 0 ∷ operand 33 0 ∷ operand 33 0 ∷  -- Ordered
    row 163 ∷ operand 46 0 ∷ operand 47 0 ∷ operand 33 0 ∷ operand 33 0 ∷  -- Unordered
    row 164 ∷ operand 46 0 ∷ operand 47 0 ∷ operand 33 0 ∷ operand 33 0 ∷  -- LogicalEqual
    row 165 ∷ operand 46 0 ∷ operand 47 0 ∷ operand 33 0 ∷ operand 33 0 ∷  -- LogicalNotEqual
    row 166 ∷ operand 46 0 ∷ operand 47 0 ∷ operand 33 0 ∷ operand 33 0 ∷  -- LogicalOr
    row 167 ∷ operand 46 0 ∷ operand 47 0 ∷ operand 33 0 ∷ operand 33 0 ∷  -- LogicalAnd
    row 168 ∷ operand 46 0 ∷ operand 47 0 ∷ operand 33 0 ∷  -- LogicalNot
    row 169 ∷ operand 46 0 ∷ operand 47 0 ∷ operand 33 0 ∷ operand 33 0 ∷ operand 33 0 ∷  -- Select
    row 170 ∷ operand 46 0 ∷ operand 47 0 ∷ operand 33 0 ∷ operand 33 0 ∷  -- IEqual
    row 171 ∷ operand 46 0 ∷ operand 47 0 ∷ operand 33 0 ∷ operand 33 0 ∷  -- INotEqual
    row 172 ∷ operand 46 0 ∷ operand 47 0 ∷ operand 33 0 ∷ operand 33 0 ∷  -- UGreaterThan
    row 173 ∷ operand 46 0 ∷ operand 47 0 ∷ operand 33 0 ∷ operand 33 0 ∷  -- SGreaterThan
    row 174 ∷ operand 46 0 ∷ operand 47 0 ∷ operand 33 0 ∷ operand 33 0 ∷  -- UGreaterThanEqual
    row 175 ∷ operand 46 0 ∷ operand 47 0 ∷ operand 33 0 ∷ operand 33 0 ∷  -- SGreaterThanEqual
    row 176 ∷ operand 46 0 ∷ operand 47 0 ∷ operand 33 0 ∷ operand 33 0 ∷  -- ULessThan
    row 177 ∷ operand 46 0 ∷ operand 47 0 ∷ operand 33 0 ∷ operand 33 0 ∷  -- SLessThan
    row 178 ∷ operand 46 0 ∷ operand 47 0 ∷ operand 33 0 ∷ operand 33 0 ∷  -- ULessThanEqual
    row 179 ∷ operand 46 0 ∷ operand 47 0 ∷ operand 33 0 ∷ operand 33 0 ∷  -- SLessThanEqual
    row 180 ∷ operand 46 0 ∷ operand 47 0 ∷ operand 33 0 ∷ operand 33 0 ∷  -- FOrdEqual
    row 181 ∷ operand 46 0 ∷ operand 47 0 ∷ operand 33 0 ∷ operand 33 0 ∷  -- FUnordEqual
    row 182 ∷ operand 46 0 ∷ operand 47 0 ∷ operand 33 0 ∷ operand 33 0 ∷  -- FOrdNotEqual
    row 183 ∷ operand 46 0 ∷ operand 47 0 ∷ operand 33 0 ∷ operand 33 0 ∷  -- FUnordNotEqual
    row 184 ∷ operand 46 0 ∷ operand 47 0 ∷ operand 33 0 ∷ operand 33 0 ∷  -- FOrdLessThan
    row 185 ∷ operand 46 0 ∷ operand 47 0 ∷ operand 33 0 ∷ operand 33 0 ∷  -- FUnordLessThan
    row 186 ∷ operand 46 0 ∷ operand 47 0 ∷ operand 33 0 ∷ operand 33 0 ∷  -- FOrdGreaterThan
    row 187 ∷ operand 46 0 ∷ operand 47 0 ∷ operand 33 0 ∷ operand 33 0 ∷  -- FUnordGreaterThan
    row 188 ∷ operand 46 0 ∷ operand 47 0 ∷ operand 33 0 ∷ operand 33 0 ∷  -- FOrdLessThanEqual
    row 189 ∷ operand 46 0 ∷ operand 47 0 ∷ operand 33 0 ∷ operand 33 0 ∷  -- FUnordLessThanEqual
    row 190 ∷ operand 46 0 ∷ operand 47 0 ∷ operand 33 0 ∷ operand 33 0 ∷  -- FOrdGreaterThanEqual
    row 191 ∷ operand 46 0 ∷ operand 47 0 ∷ operand 33 0 ∷ operand 33 0 ∷  -- FUnordGreaterThanEqual
    row 194 ∷ operand 46 0 ∷ operand 47 0 ∷ operand 33 0 ∷ operand 33 0 ∷  -- ShiftRightLogical
    row 195 ∷ operand 46 0 ∷ operand 47 0 ∷ operand 33 0 ∷ operand 33 0 ∷  -- ShiftRightArithmetic
    row 196 ∷ operand 46 0 ∷ operand 47 0 ∷ operand 33 0 ∷ operand 33 0 ∷  -- ShiftLeftLogical
    row 197 ∷ operand 46 0 ∷ operand 47 0 ∷ operand 33 0 ∷ operand 33 0 ∷  -- BitwiseOr
    row 198 ∷ operand 46 0 ∷ operand 47 0 ∷ operand 33 0 ∷ operand 33 0 ∷  -- BitwiseXor
    row 199 ∷ operand 46 0 ∷ operand 47 0 ∷ operand 33 0 ∷ operand 33 0 ∷  -- BitwiseAnd
    row 200 ∷ operand 46 0 ∷ operand 47 0 ∷ operand 33 0 ∷  -- Not
    row 201 ∷ operand 46 0 ∷ operand 47 0 ∷ operand 33 0 ∷ operand 33 0 ∷ operand 33 0 ∷ operand 33 0 ∷  -- BitFieldInsert
    row 202 ∷ operand 46 0 ∷ operand 47 0 ∷ operand 33 0 ∷ operand 33 0 ∷ operand 33 0 ∷  -- BitFieldSExtract
    row 203 ∷ operand 46 0 ∷ operand 47 0 ∷ operand 33 0 ∷ operand 33 0 ∷ operand 33 0 ∷  -- BitFieldUExtract
    row 204 ∷ operand 46 0 ∷ operand 47 0 ∷ operand 33 0 ∷  -- BitReverse
    row 205 ∷ operand 46 0 ∷ operand 47 0 ∷ operand 33 0 ∷  -- BitCount
    row 207 ∷ operand 46 0 ∷ operand 47 0 ∷ operand 33 0 ∷  -- DPdx
    row 208 ∷ operand 46 0 ∷ operand 47 0 ∷ operand 33 0 ∷  -- DPdy
    row 209 ∷ operand 46 0 ∷ operand 47 0 ∷ operand 33 0 ∷  -- Fwidth
    row 210 ∷ operand 46 0 ∷ operand 47 0 ∷ operand 33 0 ∷  -- DPdxFine
    row 211 ∷ operand 46 0 ∷ operand 47 0 ∷ operand 33 0 ∷  -- DPdyFine
    row 212 ∷ operand 46 0 ∷ operand 47 0 ∷ operand 33 0 ∷  -- FwidthFine
    row 213 ∷ operand 46 0 ∷ operand 47 0 ∷ operand 33 0 ∷  -- DPdxCoarse
    row 214 ∷ operand 46 0 ∷ operand 47 0 ∷ operand 33 0 ∷  -- DPdyCoarse
    row 215 ∷ operand 46 0 ∷ operand 47 0 ∷ operand 33 0 ∷  -- FwidthCoarse
    row 218 ∷  -- EmitVertex
    row 219 ∷  -- EndPrimitive
    row 220 ∷ operand 33 0 ∷  -- EmitStreamVertex
    row 221 ∷ operand 33 0 ∷  -- EndStreamPrimitive
    row 224 ∷ operand 32 0 ∷ operand 32 0 ∷ operand 31 0 ∷  -- ControlBarrier
    row 225 ∷ operand 32 0 ∷ operand 31 0 ∷  -- MemoryBarrier
    row 227 ∷ operand 46 0 ∷ operand 47 0 ∷ operand 33 0 ∷ operand 32 0 ∷ operand 31 0 ∷  -- AtomicLoad
    row 228 ∷ operand 33 0 ∷ operand 32 0 ∷ operand 31 0 ∷ operand 33 0 ∷  -- AtomicStore
    row 229 ∷ operand 46 0 ∷ operand 47 0 ∷ operand 33 0 ∷ operand 32 0 ∷ operand 31 0 ∷ operand 33 0 ∷  -- AtomicExchange
    row 230 ∷ operand 46 0 ∷ operand 47 0 ∷ operand 33 0 ∷ operand 32 0 ∷ operand 31 0 ∷ operand 31 0 ∷ operand 33 0 ∷ operand 33 0 ∷  -- AtomicCompareExchange
    row 231 ∷ operand 46 0 ∷ operand 47 0 ∷ operand 33 0 ∷ operand 32 0 ∷ operand 31 0 ∷ operand 31 0 ∷ operand 33 0 ∷ operand 33 0 ∷  -- AtomicCompareExchangeWeak
    row 232 ∷ operand 46 0 ∷ operand 47 0 ∷ operand 33 0 ∷ operand 32 0 ∷ operand 31 0 ∷  -- AtomicIIncrement
    row 233 ∷ operand 46 0 ∷ operand 47 0 ∷ operand 33 0 ∷ operand 32 0 ∷ operand 31 0 ∷  -- AtomicIDecrement
    row 234 ∷ operand 46 0 ∷ operand 47 0 ∷ operand 33 0 ∷ operand 32 0 ∷ operand 31 0 ∷ operand 33 0 ∷  -- AtomicIAdd
    row 235 ∷ operand 46 0 ∷ operand 47 0 ∷ operand 33 0 ∷ operand 32 0 ∷ operand 31 0 ∷ operand 33 0 ∷  -- AtomicISub
    row 236 ∷ operand 46 0 ∷ operand 47 0 ∷ operand 33 0 ∷ operand 32 0 ∷ operand 31 0 ∷ operand 33 0 ∷  -- AtomicSMin
    row 237 ∷ operand 46 0 ∷ operand 47 0 ∷ operand 33 0 ∷ operand 32 0 ∷ operand 31 0 ∷ operand 33 0 ∷  -- AtomicUMin
    row 238 ∷ operand 46 0 ∷ operand 47 0 ∷ operand 33 0 ∷ operand 32 0 ∷ operand 31 0 ∷ operand 33 0 ∷  -- AtomicSMax
    row 239 ∷ operand 46 0 ∷ operand 47 0 ∷ operand 33 0 ∷ operand 32 0 ∷ operand 31 0 ∷ operand 33 0 ∷  -- AtomicUMax
    row 240 ∷ operand 46 0 ∷ operand 47 0 ∷ operand 33 0 ∷ operand 32 0 ∷ operand 31 0 ∷ operand 33 0 ∷  -- AtomicAnd
    row 241 ∷ operand 46 0 ∷ operand 47 0 ∷ operand 33 0 ∷ operand 32 0 ∷ operand 31 0 ∷ operand 33 0 ∷  -- AtomicOr
    row 242 ∷ operand 46 0 ∷ operand 47 0 ∷ operand 33 0 ∷ operand 32 0 ∷ operand 31 0 ∷ operand 33 0 ∷  -- AtomicXor
    row 245 ∷ operand 46 0 ∷ operand 47 0 ∷ operand 51 2 ∷  -- Phi
    row 246 ∷ operand 33 0 ∷ operand 33 0 ∷ operand 4 0 ∷  -- LoopMerge
    row 247 ∷ operand 33 0 ∷ operand 3 0 ∷  -- SelectionMerge
    row 248 ∷ operand 47 0 ∷  -- Label
    row 249 ∷ operand 33 0 ∷  -- Branch
    row 250 ∷ operand 33 0 ∷ operand 33 0 ∷ operand 33 0 ∷ operand 34 2 ∷  -- BranchConditional
    row 251 ∷ operand 33 0 ∷ operand 33 0 ∷ operand 49 2 ∷  -- Switch
    row 252 ∷  -- Kill
    row 253 ∷  -- Return
    row 254 ∷ operand 33 0 ∷  -- ReturnValue
    row 255 ∷  -- Unreachable
    row 256 ∷ operand 33 0 ∷ operand 34 0 ∷  -- LifetimeStart
    row 257 ∷ operand 33 0 ∷ operand 34 0 ∷  -- LifetimeStop
    row 259 ∷ operand 46 0 ∷ operand 47 0 ∷ operand 32 0 ∷ operand 33 0 ∷ operand 33 0 ∷ operand 33 0 ∷ operand 33 0 ∷ operand 33 0 ∷  -- GroupAsyncCopy
    row 260 ∷ operand 32 0 ∷ operand 33 0 ∷ operand 33 0 ∷  -- GroupWaitEvents
    row 261 ∷ operand 46 0 ∷ operand 47 0 ∷ operand 32 0 ∷ operand 33 0 ∷  -- GroupAll
    row 262 ∷ operand 46 0 ∷ operand 47 0 ∷ operand 32 0 ∷ operand 33 0 ∷  -- GroupAny
    row 263 ∷ operand 46 0 ∷ operand 47 0 ∷ operand 32 0 ∷ operand 33 0 ∷ operand 33 0 ∷  -- GroupBroadcast
    row 264 ∷ operand 46 0 ∷ operand 47 0 ∷ operand 32 0 ∷ operand 28 0 ∷ operand 33 0 ∷  -- GroupIAdd
    row 265 ∷ operand 46 0 ∷ operand 47 0 ∷ operand 32 0 ∷ operand 28 0 ∷ operand 33 0 ∷  -- GroupFAdd
    row 266 ∷ operand 46 0 ∷ operand 47 0 ∷ operand 32 0 ∷ operand 28 0 ∷ operand 33 0 ∷  -- GroupFMin
    row 267 ∷ operand 46 0 ∷ operand 47 0 ∷ operand 32 0 ∷ operand 28 0 ∷ operand 33 0 ∷  -- GroupUMin
    row 268 ∷ operand 46 0 ∷ operand 47 0 ∷ operand 32 0 ∷ operand 28 0 ∷ operand 33 0 ∷  -- GroupSMin
    row 269 ∷ operand 46 0 ∷ operand 47 0 ∷ operand 32 0 ∷ operand 28 0 ∷ operand 33 0 ∷  -- GroupFMax
    row 270 ∷ operand 46 0 ∷ operand 47 0 ∷ operand 32 0 ∷ operand 28 0 ∷ operand 33 0 ∷  -- GroupUMax
    row 271 ∷ operand 46 0 ∷ operand 47 0 ∷ operand 32 0 ∷ operand 28 0 ∷ operand 33 0 ∷  -- GroupSMax
    row 274 ∷ operand 46 0 ∷ operand 47 0 ∷ operand 33 0 ∷ operand 33 0 ∷ operand 33 0 ∷ operand 33 0 ∷  -- ReadPipe
    row 275 ∷ operand 46 0 ∷ operand 47 0 ∷ operand 33 0 ∷ operand 33 0 ∷ operand 33 0 ∷ operand 33 0 ∷  -- WritePipe
    row 276 ∷ operand 46 0 ∷ operand 47 0 ∷ operand 33 0 ∷ operand 33 0 ∷ operand 33 0 ∷ operand 33 0 ∷ operand 33 0 ∷ operand 33 0 ∷  -- ReservedReadPipe
    row 277 ∷ operand 46 0 ∷ operand 47 0 ∷ operand 33 0 ∷ operand 33 0 ∷ operand 33 0 ∷ operand 33 0 ∷ operand 33 0 ∷ operand 33 0 ∷  -- ReservedWritePipe
    row 278 ∷ operand 46 0 ∷ operand 47 0 ∷ operand 33 0 ∷ operand 33 0 ∷ operand 33 0 ∷ operand 33 0 ∷  -- ReserveReadPipePackets
    row 279 ∷ operand 46 0 ∷ operand 47 0 ∷ operand 33 0 ∷ operand 33 0 ∷ operand 33 0 ∷ operand 33 0 ∷  -- ReserveWritePipePackets
    row 280 ∷ operand 33 0 ∷ operand 33 0 ∷ operand 33 0 ∷ operand 33 0 ∷  -- CommitReadPipe
    row 281 ∷ operand 33 0 ∷ operand 33 0 ∷ operand 33 0 ∷ operand 33 0 ∷  -- CommitWritePipe
    row 282 ∷ operand 46 0 ∷ operand 47 0 ∷ operand 33 0 ∷  -- IsValidReserveId
    row 283 ∷ operand 46 0 ∷ operand 47 0 ∷ operand 33 0 ∷ operand 33 0 ∷ operand 33 0 ∷  -- GetNumPipePackets
    row 284 ∷ operand 46 0 ∷ operand 47 0 ∷ operand 33 0 ∷ operand 33 0 ∷ operand 33 0 ∷  -- GetMaxPipePackets
    row 285 ∷ operand 46 0 ∷ operand 47 0 ∷ operand 32 0 ∷ operand 33 0 ∷ operand 33 0 ∷ operand 33 0 ∷ operand 33 0 ∷  -- GroupReserveReadPipePackets
    row 286 ∷ operand 46 0 ∷ operand 47 0 ∷ operand 32 0 ∷ operand 33 0 ∷ operand 33 0 ∷ operand 33 0 ∷ operand 33 0 ∷  -- GroupReserveWritePipePackets
    row 287 ∷ operand 32 0 ∷ operand 33 0 ∷ operand 33 0 ∷ operand 33 0 ∷ operand 33 0 ∷  -- GroupCommitReadPipe
    row 288 ∷ operand 32 0 ∷ operand 33 0 ∷ operand 33 0 ∷ operand 33 0 ∷ operand 33 0 ∷  -- GroupCommitWritePipe
    row 291 ∷ operand 46 0 ∷ operand 47 0 ∷ operand 33 0 ∷ operand 33 0 ∷ operand 33 0 ∷ operand 33 0 ∷  -- EnqueueMarker
    row 292 ∷ operand 46 0 ∷ operand 47 0 ∷ operand 33 0 ∷ operand 33 0 ∷ operand 33 0 ∷ operand 33 0 ∷ operand 33 0 ∷ operand 33 0 ∷ operand 33 0 ∷ operand 33 0 ∷ operand 33 0 ∷ operand 33 0 ∷ operand 33 2 ∷  -- EnqueueKernel
    row 293 ∷ operand 46 0 ∷ operand 47 0 ∷ operand 33 0 ∷ operand 33 0 ∷ operand 33 0 ∷ operand 33 0 ∷ operand 33 0 ∷  -- GetKernelNDrangeSubGroupCount
    row 294 ∷ operand 46 0 ∷ operand 47 0 ∷ operand 33 0 ∷ operand 33 0 ∷ operand 33 0 ∷ operand 33 0 ∷ operand 33 0 ∷  -- GetKernelNDrangeMaxSubGroupSize
    row 295 ∷ operand 46 0 ∷ operand 47 0 ∷ operand 33 0 ∷ operand 33 0 ∷ operand 33 0 ∷ operand 33 0 ∷  -- GetKernelWorkGroupSize
    row 296 ∷ operand 46 0 ∷ operand 47 0 ∷ operand 33 0 ∷ operand 33 0 ∷ operand 33 0 ∷ operand 33 0 ∷  -- GetKernelPreferredWorkGroupSizeMultiple
    row 297 ∷ operand 33 0 ∷  -- RetainEvent
    row 298 ∷ operand 33 0 ∷  -- ReleaseEvent
    row 299 ∷ operand 46 0 ∷ operand 47 0 ∷  -- CreateUserEvent
    row 300 ∷ operand 46 0 ∷ operand 47 0 ∷ operand 33 0 ∷  -- IsValidEvent
    row 301 ∷ operand 33 0 ∷ operand 33 0 ∷  -- SetUserEventStatus
    row 302 ∷ operand 33 0 ∷ operand 33 0 ∷ operand 33 0 ∷  -- CaptureEventProfilingInfo
    row 303 ∷ operand 46 0 ∷ operand 47 0 ∷  -- GetDefaultQueue
    row 304 ∷ operand 46 0 ∷ operand 47 0 ∷ operand 33 0 ∷ operand 33 0 ∷ operand 33 0 ∷  -- BuildNDRange
    row 305 ∷ operand 46 0 ∷ operand 47 0 ∷ operand 33 0 ∷ operand 33 0 ∷ operand 1 1 ∷  -- ImageSparseSampleImplicitLod
    row 306 ∷ operand 46 0 ∷ operand 47 0 ∷ operand 33 0 ∷ operand 33 0 ∷ operand 1 0 ∷  -- ImageSparseSampleExplicitLod
    row 307 ∷ operand 46 0 ∷ operand 47 0 ∷ operand 33 0 ∷ operand 33 0 ∷ operand 33 0 ∷ operand 1 1 ∷  -- ImageSparseSampleDrefImplicitLod
    row 308 ∷ operand 46 0 ∷ operand 47 0 ∷ operand 33 0 ∷ operand 33 0 ∷ operand 33 0 ∷ operand 1 0 ∷  -- ImageSparseSampleDrefExplicitLod
    row 309 ∷ operand 46 0 ∷ operand 47 0 ∷ operand 33 0 ∷ operand 33 0 ∷ operand 1 1 ∷  -- ImageSparseSampleProjImplicitLod
    row 310 ∷ operand 46 0 ∷ operand 47 0 ∷ operand 33 0 ∷ operand 33 0 ∷ operand 1 0 ∷  -- ImageSparseSampleProjExplicitLod
    row 311 ∷ operand 46 0 ∷ operand 47 0 ∷ operand 33 0 ∷ operand 33 0 ∷ operand 33 0 ∷ operand 1 1 ∷  -- ImageSparseSampleProjDrefImplicitLod
    row 312 ∷ operand 46 0 ∷ operand 47 0 ∷ operand 33 0 ∷ operand 33 0 ∷ operand 33 0 ∷ operand 1 0 ∷  -- ImageSparseSampleProjDrefExplicitLod
    row 313 ∷ operand 46 0 ∷ operand 47 0 ∷ operand 33 0 ∷ operand 33 0 ∷ operand 1 1 ∷  -- ImageSparseFetch
    row 314 ∷ operand 46 0 ∷ operand 47 0 ∷ operand 33 0 ∷ operand 33 0 ∷ operand 33 0 ∷ operand 1 1 ∷  -- ImageSparseGather
    row 315 ∷ operand 46 0 ∷ operand 47 0 ∷ operand 33 0 ∷ operand 33 0 ∷ operand 33 0 ∷ operand 1 1 ∷  -- ImageSparseDrefGather
    row 316 ∷ operand 46 0 ∷ operand 47 0 ∷ operand 33 0 ∷  -- ImageSparseTexelsResident
    row 317 ∷  -- NoLine
    row 318 ∷ operand 46 0 ∷ operand 47 0 ∷ operand 33 0 ∷ operand 32 0 ∷ operand 31 0 ∷  -- AtomicFlagTestAndSet
    row 319 ∷ operand 33 0 ∷ operand 32 0 ∷ operand 31 0 ∷  -- AtomicFlagClear
    row 320 ∷ operand 46 0 ∷ operand 47 0 ∷ operand 33 0 ∷ operand 33 0 ∷ operand 1 1 ∷  -- ImageSparseRead
    row 321 ∷ operand 46 0 ∷ operand 47 0 ∷ operand 33 0 ∷  -- SizeOf
    row 322 ∷ operand 47 0 ∷  -- TypePipeStorage
    row 323 ∷ operand 46 0 ∷ operand 47 0 ∷ operand 34 0 ∷ operand 34 0 ∷ operand 34 0 ∷  -- ConstantPipeStorage
    row 324 ∷ operand 46 0 ∷ operand 47 0 ∷ operand 33 0 ∷  -- CreatePipeFromPipeStorage
    row 325 ∷ operand 46 0 ∷ operand 47 0 ∷ operand 33 0 ∷ operand 33 0 ∷ operand 33 0 ∷ operand 33 0 ∷ operand 33 0 ∷  -- GetKernelLocalSizeForSubgroupCount
    row 326 ∷ operand 46 0 ∷ operand 47 0 ∷ operand 33 0 ∷ operand 33 0 ∷ operand 33 0 ∷ operand 33 0 ∷  -- GetKernelMaxNumSubgroups
    row 327 ∷ operand 47 0 ∷  -- TypeNamedBarrier
    row 328 ∷ operand 46 0 ∷ operand 47 0 ∷ operand 33 0 ∷  -- NamedBarrierInitialize
    row 329 ∷ operand 33 0 ∷ operand 32 0 ∷ operand 31 0 ∷  -- MemoryNamedBarrier
    row 330 ∷ operand 40 0 ∷  -- ModuleProcessed
    row 331 ∷ operand 33 0 ∷ operand 13 0 ∷  -- ExecutionModeId
    row 332 ∷ operand 33 0 ∷ operand 25 0 ∷  -- DecorateId
    row 333 ∷ operand 46 0 ∷ operand 47 0 ∷ operand 32 0 ∷  -- GroupNonUniformElect
    row 334 ∷ operand 46 0 ∷ operand 47 0 ∷ operand 32 0 ∷ operand 33 0 ∷  -- GroupNonUniformAll
    row 335 ∷ operand 46 0 ∷ operand 47 0 ∷ operand 32 0 ∷ operand 33 0 ∷  -- GroupNonUniformAny
    row 336 ∷ operand 46 0 ∷ operand 47 0 ∷ operand 32 0 ∷ operand 33 0 ∷  -- GroupNonUniformAllEqual
    row 337 ∷ operand 46 0 ∷ operand 47 0 ∷ operand 32 0 ∷ operand 33 0 ∷ operand 33 0 ∷  -- GroupNonUniformBroadcast
    row 338 ∷ operand 46 0 ∷ operand 47 0 ∷ operand 32 0 ∷ operand 33 0 ∷  -- GroupNonUniformBroadcastFirst
    row 339 ∷ operand 46 0 ∷ operand 47 0 ∷ operand 32 0 ∷ operand 33 0 ∷  -- GroupNonUniformBallot
    row 340 ∷ operand 46 0 ∷ operand 47 0 ∷ operand 32 0 ∷ operand 33 0 ∷  -- GroupNonUniformInverseBallot
    row 341 ∷ operand 46 0 ∷ operand 47 0 ∷ operand 32 0 ∷ operand 33 0 ∷ operand 33 0 ∷  -- GroupNonUniformBallotBitExtract
    row 342 ∷ operand 46 0 ∷ operand 47 0 ∷ operand 32 0 ∷ operand 28 0 ∷ operand 33 0 ∷  -- GroupNonUniformBallotBitCount
    row 343 ∷ operand 46 0 ∷ operand 47 0 ∷ operand 32 0 ∷ operand 33 0 ∷  -- GroupNonUniformBallotFindLSB
    row 344 ∷ operand 46 0 ∷ operand 47 0 ∷ operand 32 0 ∷ operand 33 0 ∷  -- GroupNonUniformBallotFindMSB
    row 345 ∷ operand 46 0 ∷ operand 47 0 ∷ operand 32 0 ∷ operand 33 0 ∷ operand 33 0 ∷  -- GroupNonUniformShuffle
    row 346 ∷ operand 46 0 ∷ operand 47 0 ∷ operand 32 0 ∷ operand 33 0 ∷ operand 33 0 ∷  -- GroupNonUniformShuffleXor
    row 347 ∷ operand 46 0 ∷ operand 47 0 ∷ operand 32 0 ∷ operand 33 0 ∷ operand 33 0 ∷  -- GroupNonUniformShuffleUp
    row 348 ∷ operand 46 0 ∷ operand 47 0 ∷ operand 32 0 ∷ operand 33 0 ∷ operand 33 0 ∷  -- GroupNonUniformShuffleDown
    row 349 ∷ operand 46 0 ∷ operand 47 0 ∷ operand 32 0 ∷ operand 28 0 ∷ operand 33 0 ∷ operand 33 1 ∷  -- GroupNonUniformIAdd
    row 350 ∷ operand 46 0 ∷ operand 47 0 ∷ operand 32 0 ∷ operand 28 0 ∷ operand 33 0 ∷ operand 33 1 ∷  -- GroupNonUniformFAdd
    row 351 ∷ operand 46 0 ∷ operand 47 0 ∷ operand 32 0 ∷ operand 28 0 ∷ operand 33 0 ∷ operand 33 1 ∷  -- GroupNonUniformIMul
    row 352 ∷ operand 46 0 ∷ operand 47 0 ∷ operand 32 0 ∷ operand 28 0 ∷ operand 33 0 ∷ operand 33 1 ∷  -- GroupNonUniformFMul
    row 353 ∷ operand 46 0 ∷ operand 47 0 ∷ operand 32 0 ∷ operand 28 0 ∷ operand 33 0 ∷ operand 33 1 ∷  -- GroupNonUniformSMin
    row 354 ∷ operand 46 0 ∷ operand 47 0 ∷ operand 32 0 ∷ operand 28 0 ∷ operand 33 0 ∷ operand 33 1 ∷  -- GroupNonUniformUMin
    row 355 ∷ operand 46 0 ∷ operand 47 0 ∷ operand 32 0 ∷ operand 28 0 ∷ operand 33 0 ∷ operand 33 1 ∷  -- GroupNonUniformFMin
    row 356 ∷ operand 46 0 ∷ operand 47 0 ∷ operand 32 0 ∷ operand 28 0 ∷ operand 33 0 ∷ operand 33 1 ∷  -- GroupNonUniformSMax
    row 357 ∷ operand 46 0 ∷ operand 47 0 ∷ operand 32 0 ∷ operand 28 0 ∷ operand 33 0 ∷ operand 33 1 ∷  -- GroupNonUniformUMax
    row 358 ∷ operand 46 0 ∷ operand 47 0 ∷ operand 32 0 ∷ operand 28 0 ∷ operand 33 0 ∷ operand 33 1 ∷  -- GroupNonUniformFMax
    row 359 ∷ operand 46 0 ∷ operand 47 0 ∷ operand 32 0 ∷ operand 28 0 ∷ operand 33 0 ∷ operand 33 1 ∷  -- GroupNonUniformBitwiseAnd
    row 360 ∷ operand 46 0 ∷ operand 47 0 ∷ operand 32 0 ∷ operand 28 0 ∷ operand 33 0 ∷ operand 33 1 ∷  -- GroupNonUniformBitwiseOr
    row 361 ∷ operand 46 0 ∷ operand 47 0 ∷ operand 32 0 ∷ operand 28 0 ∷ operand 33 0 ∷ operand 33 1 ∷  -- GroupNonUniformBitwiseXor
    row 362 ∷ operand 46 0 ∷ operand 47 0 ∷ operand 32 0 ∷ operand 28 0 ∷ operand 33 0 ∷ operand 33 1 ∷  -- GroupNonUniformLogicalAnd
    row 363 ∷ operand 46 0 ∷ operand 47 0 ∷ operand 32 0 ∷ operand 28 0 ∷ operand 33 0 ∷ operand 33 1 ∷  -- GroupNonUniformLogicalOr
    row 364 ∷ operand 46 0 ∷ operand 47 0 ∷ operand 32 0 ∷ operand 28 0 ∷ operand 33 0 ∷ operand 33 1 ∷  -- GroupNonUniformLogicalXor
    row 365 ∷ operand 46 0 ∷ operand 47 0 ∷ operand 32 0 ∷ operand 33 0 ∷ operand 33 0 ∷  -- GroupNonUniformQuadBroadcast
    row 366 ∷ operand 46 0 ∷ operand 47 0 ∷ operand 32 0 ∷ operand 33 0 ∷ operand 33 0 ∷  -- GroupNonUniformQuadSwap
    row 400 ∷ operand 46 0 ∷ operand 47 0 ∷ operand 33 0 ∷  -- CopyLogical
    row 401 ∷ operand 46 0 ∷ operand 47 0 ∷ operand 33 0 ∷ operand 33 0 ∷  -- PtrEqual
    row 402 ∷ operand 46 0 ∷ operand 47 0 ∷ operand 33 0 ∷ operand 33 0 ∷  -- PtrNotEqual
    row 403 ∷ operand 46 0 ∷ operand 47 0 ∷ operand 33 0 ∷ operand 33 0 ∷  -- PtrDiff
    row 4416 ∷  -- TerminateInvocation
    row 4421 ∷ operand 46 0 ∷ operand 47 0 ∷ operand 33 0 ∷  -- SubgroupBallotKHR
    row 4422 ∷ operand 46 0 ∷ operand 47 0 ∷ operand 33 0 ∷  -- SubgroupFirstInvocationKHR
    row 4428 ∷ operand 46 0 ∷ operand 47 0 ∷ operand 33 0 ∷  -- SubgroupAllKHR
    row 4429 ∷ operand 46 0 ∷ operand 47 0 ∷ operand 33 0 ∷  -- SubgroupAnyKHR
    row 4430 ∷ operand 46 0 ∷ operand 47 0 ∷ operand 33 0 ∷  -- SubgroupAllEqualKHR
    row 4432 ∷ operand 46 0 ∷ operand 47 0 ∷ operand 33 0 ∷ operand 33 0 ∷  -- SubgroupReadInvocationKHR
    row 4445 ∷ operand 33 0 ∷ operand 33 0 ∷ operand 33 0 ∷ operand 33 0 ∷ operand 33 0 ∷ operand 33 0 ∷ operand 33 0 ∷ operand 33 0 ∷ operand 33 0 ∷ operand 33 0 ∷ operand 33 0 ∷  -- TraceRayKHR
    row 4446 ∷ operand 33 0 ∷ operand 33 0 ∷  -- ExecuteCallableKHR
    row 4447 ∷ operand 46 0 ∷ operand 47 0 ∷ operand 33 0 ∷  -- ConvertUToAccelerationStructureKHR
    row 4448 ∷  -- IgnoreIntersectionKHR
    row 4449 ∷  -- TerminateRayKHR
    row 4472 ∷ operand 47 0 ∷  -- TypeRayQueryKHR
    row 4473 ∷ operand 33 0 ∷ operand 33 0 ∷ operand 33 0 ∷ operand 33 0 ∷ operand 33 0 ∷ operand 33 0 ∷ operand 33 0 ∷ operand 33 0 ∷  -- RayQueryInitializeKHR
    row 4474 ∷ operand 33 0 ∷  -- RayQueryTerminateKHR
    row 4475 ∷ operand 33 0 ∷ operand 33 0 ∷  -- RayQueryGenerateIntersectionKHR
    row 4476 ∷ operand 33 0 ∷  -- RayQueryConfirmIntersectionKHR
    row 4477 ∷ operand 46 0 ∷ operand 47 0 ∷ operand 33 0 ∷  -- RayQueryProceedKHR
    row 4479 ∷ operand 46 0 ∷ operand 47 0 ∷ operand 33 0 ∷ operand 33 0 ∷  -- RayQueryGetIntersectionTypeKHR
    row 5000 ∷ operand 46 0 ∷ operand 47 0 ∷ operand 32 0 ∷ operand 28 0 ∷ operand 33 0 ∷  -- GroupIAddNonUniformAMD
    row 5001 ∷ operand 46 0 ∷ operand 47 0 ∷ operand 32 0 ∷ operand 28 0 ∷ operand 33 0 ∷  -- GroupFAddNonUniformAMD
    row 5002 ∷ operand 46 0 ∷ operand 47 0 ∷ operand 32 0 ∷ operand 28 0 ∷ operand 33 0 ∷  -- GroupFMinNonUniformAMD
    row 5003 ∷ operand 46 0 ∷ operand 47 0 ∷ operand 32 0 ∷ operand 28 0 ∷ operand 33 0 ∷  -- GroupUMinNonUniformAMD
    row 5004 ∷ operand 46 0 ∷ operand 47 0 ∷ operand 32 0 ∷ operand 28 0 ∷ operand 33 0 ∷  -- GroupSMinNonUniformAMD
    row 5005 ∷ operand 46 0 ∷ operand 47 0 ∷ operand 32 0 ∷ operand 28 0 ∷ operand 33 0 ∷  -- GroupFMaxNonUniformAMD
    row 5006 ∷ operand 46 0 ∷ operand 47 0 ∷ operand 32 0 ∷ operand 28 0 ∷ operand 33 0 ∷  -- GroupUMaxNonUniformAMD
    row 5007 ∷ operand 46 0 ∷ operand 47 0 ∷ operand 32 0 ∷ operand 28 0 ∷ operand 33 0 ∷  -- GroupSMaxNonUniformAMD
    row 5011 ∷ operand 46 0 ∷ operand 47 0 ∷ operand 33 0 ∷ operand 33 0 ∷  -- FragmentMaskFetchAMD
    row 5012 ∷ operand 46 0 ∷ operand 47 0 ∷ operand 33 0 ∷ operand 33 0 ∷ operand 33 0 ∷  -- FragmentFetchAMD
    row 5056 ∷ operand 46 0 ∷ operand 47 0 ∷ operand 32 0 ∷  -- ReadClockKHR
    row 5283 ∷ operand 46 0 ∷ operand 47 0 ∷ operand 33 0 ∷ operand 33 0 ∷ operand 33 0 ∷ operand 33 0 ∷ operand 1 1 ∷  -- ImageSampleFootprintNV
    row 5296 ∷ operand 46 0 ∷ operand 47 0 ∷ operand 33 0 ∷  -- GroupNonUniformPartitionNV
    row 5299 ∷ operand 33 0 ∷ operand 33 0 ∷  -- WritePackedPrimitiveIndices4x8NV
    row 5334 ∷ operand 46 0 ∷ operand 47 0 ∷ operand 33 0 ∷ operand 33 0 ∷  -- ReportIntersectionNV
    row 5335 ∷  -- IgnoreIntersectionNV
    row 5336 ∷  -- TerminateRayNV
    row 5337 ∷ operand 33 0 ∷ operand 33 0 ∷ operand 33 0 ∷ operand 33 0 ∷ operand 33 0 ∷ operand 33 0 ∷ operand 33 0 ∷ operand 33 0 ∷ operand 33 0 ∷ operand 33 0 ∷ operand 33 0 ∷  -- TraceNV
    row 5341 ∷ operand 47 0 ∷  -- TypeAccelerationStructureNV
    row 5344 ∷ operand 33 0 ∷ operand 33 0 ∷  -- ExecuteCallableNV
    row 5358 ∷ operand 47 0 ∷ operand 33 0 ∷ operand 32 0 ∷ operand 33 0 ∷ operand 33 0 ∷  -- TypeCooperativeMatrixNV
    row 5359 ∷ operand 46 0 ∷ operand 47 0 ∷ operand 33 0 ∷ operand 33 0 ∷ operand 33 0 ∷ operand 7 1 ∷  -- CooperativeMatrixLoadNV
    row 5360 ∷ operand 33 0 ∷ operand 33 0 ∷ operand 33 0 ∷ operand 33 0 ∷ operand 7 1 ∷  -- CooperativeMatrixStoreNV
    row 5361 ∷ operand 46 0 ∷ operand 47 0 ∷ operand 33 0 ∷ operand 33 0 ∷ operand 33 0 ∷  -- CooperativeMatrixMulAddNV
    row 5362 ∷ operand 46 0 ∷ operand 47 0 ∷ operand 33 0 ∷  -- CooperativeMatrixLengthNV
    row 5364 ∷  -- BeginInvocationInterlockEXT
    row 5365 ∷  -- EndInvocationInterlockEXT
    row 5380 ∷  -- DemoteToHelperInvocationEXT
    row 5381 ∷ operand 46 0 ∷ operand 47 0 ∷  -- IsHelperInvocationEXT
    row 5571 ∷ operand 46 0 ∷ operand 47 0 ∷ operand 33 0 ∷ operand 33 0 ∷  -- SubgroupShuffleINTEL
    row 5572 ∷ operand 46 0 ∷ operand 47 0 ∷ operand 33 0 ∷ operand 33 0 ∷ operand 33 0 ∷  -- SubgroupShuffleDownINTEL
    row 5573 ∷ operand 46 0 ∷ operand 47 0 ∷ operand 33 0 ∷ operand 33 0 ∷ operand 33 0 ∷  -- SubgroupShuffleUpINTEL
    row 5574 ∷ operand 46 0 ∷ operand 47 0 ∷ operand 33 0 ∷ operand 33 0 ∷  -- SubgroupShuffleXorINTEL
    row 5575 ∷ operand 46 0 ∷ operand 47 0 ∷ operand 33 0 ∷  -- SubgroupBlockReadINTEL
    row 5576 ∷ operand 33 0 ∷ operand 33 0 ∷  -- SubgroupBlockWriteINTEL
    row 5577 ∷ operand 46 0 ∷ operand 47 0 ∷ operand 33 0 ∷ operand 33 0 ∷  -- SubgroupImageBlockReadINTEL
    row 5578 ∷ operand 33 0 ∷ operand 33 0 ∷ operand 33 0 ∷  -- SubgroupImageBlockWriteINTEL
    row 5580 ∷ operand 46 0 ∷ operand 47 0 ∷ operand 33 0 ∷ operand 33 0 ∷ operand 33 0 ∷ operand 33 0 ∷  -- SubgroupImageMediaBlockReadINTEL
    row 5581 ∷ operand 33 0 ∷ operand 33 0 ∷ operand 33 0 ∷ operand 33 0 ∷ operand 33 0 ∷  -- SubgroupImageMediaBlockWriteINTEL
    row 5585 ∷ operand 46 0 ∷ operand 47 0 ∷ operand 33 0 ∷  -- UCountLeadingZerosINTEL
    row 5586 ∷ operand 46 0 ∷ operand 47 0 ∷ operand 33 0 ∷  -- UCountTrailingZerosINTEL
    row 5587 ∷ operand 46 0 ∷ operand 47 0 ∷ operand 33 0 ∷ operand 33 0 ∷  -- AbsISubINTEL
    row 5588 ∷ operand 46 0 ∷ operand 47 0 ∷ operand 33 0 ∷ operand 33 0 ∷  -- AbsUSubINTEL
    row 5589 ∷ operand 46 0 ∷ operand 47 0 ∷ operand 33 0 ∷ operand 33 0 ∷  -- IAddSatINTEL
    row 5590 ∷ operand 46 0 ∷ operand 47 0 ∷ operand 33 0 ∷ operand 33 0 ∷  -- UAddSatINTEL
    row 5591 ∷ operand 46 0 ∷ operand 47 0 ∷ operand 33 0 ∷ operand 33 0 ∷  -- IAverageINTEL
    row 5592 ∷ operand 46 0 ∷ operand 47 0 ∷ operand 33 0 ∷ operand 33 0 ∷  -- UAverageINTEL
    row 5593 ∷ operand 46 0 ∷ operand 47 0 ∷ operand 33 0 ∷ operand 33 0 ∷  -- IAverageRoundedINTEL
    row 5594 ∷ operand 46 0 ∷ operand 47 0 ∷ operand 33 0 ∷ operand 33 0 ∷  -- UAverageRoundedINTEL
    row 5595 ∷ operand 46 0 ∷ operand 47 0 ∷ operand 33 0 ∷ operand 33 0 ∷  -- ISubSatINTEL
    row 5596 ∷ operand 46 0 ∷ operand 47 0 ∷ operand 33 0 ∷ operand 33 0 ∷  -- USubSatINTEL
    row 5597 ∷ operand 46 0 ∷ operand 47 0 ∷ operand 33 0 ∷ operand 33 0 ∷  -- IMul32x16INTEL
    row 5598 ∷ operand 46 0 ∷ operand 47 0 ∷ operand 33 0 ∷ operand 33 0 ∷  -- UMul32x16INTEL
    row 5600 ∷ operand 46 0 ∷ operand 47 0 ∷ operand 33 0 ∷  -- FunctionPointerINTEL
    row 5601 ∷ operand 46 0 ∷ operand 47 0 ∷ operand 33 2 ∷  -- FunctionPointerCallINTEL
    row 5632 ∷ operand 33 0 ∷ operand 25 0 ∷  -- DecorateString
    row 5633 ∷ operand 33 0 ∷ operand 34 0 ∷ operand 25 0 ∷  -- MemberDecorateString
    row 5699 ∷ operand 46 0 ∷ operand 47 0 ∷ operand 33 0 ∷ operand 33 0 ∷  -- VmeImageINTEL
    row 5700 ∷ operand 47 0 ∷ operand 33 0 ∷  -- TypeVmeImageINTEL
    row 5701 ∷ operand 47 0 ∷  -- TypeAvcImePayloadINTEL
    row 5702 ∷ operand 47 0 ∷  -- TypeAvcRefPayloadINTEL
    row 5703 ∷ operand 47 0 ∷  -- TypeAvcSicPayloadINTEL
    row 5704 ∷ operand 47 0 ∷  -- TypeAvcMcePayloadINTEL
    row 5705 ∷ operand 47 0 ∷  -- TypeAvcMceResultINTEL
    row 5706 ∷ operand 47 0 ∷  -- TypeAvcImeResultINTEL
    row 5707 ∷ operand 47 0 ∷  -- TypeAvcImeResultSingleReferenceStreamoutINTEL
    row 5708 ∷ operand 47 0 ∷  -- TypeAvcImeResultDualReferenceStreamoutINTEL
    row 5709 ∷ operand 47 0 ∷  -- TypeAvcImeSingleReferenceStreaminINTEL
    row 5710 ∷ operand 47 0 ∷  -- TypeAvcImeDualReferenceStreaminINTEL
    row 5711 ∷ operand 47 0 ∷  -- TypeAvcRefResultINTEL
    row 5712 ∷ operand 47 0 ∷  -- TypeAvcSicResultINTEL
    row 5713 ∷ operand 46 0 ∷ operand 47 0 ∷ operand 33 0 ∷ operand 33 0 ∷  -- SubgroupAvcMceGetDefaultInterBaseMultiReferencePenaltyINTEL
    row 5714 ∷ operand 46 0 ∷ operand 47 0 ∷ operand 33 0 ∷ operand 33 0 ∷  -- SubgroupAvcMceSetInterBaseMultiReferencePenaltyINTEL
    row 5715 ∷ operand 46 0 ∷ operand 47 0 ∷ operand 33 0 ∷ operand 33 0 ∷  -- SubgroupAvcMceGetDefaultInterShapePenaltyINTEL
    row 5716 ∷ operand 46 0 ∷ operand 47 0 ∷ operand 33 0 ∷ operand 33 0 ∷  -- SubgroupAvcMceSetInterShapePenaltyINTEL
    row 5717 ∷ operand 46 0 ∷ operand 47 0 ∷ operand 33 0 ∷ operand 33 0 ∷  -- SubgroupAvcMceGetDefaultInterDirectionPenaltyINTEL
    row 5718 ∷ operand 46 0 ∷ operand 47 0 ∷ operand 33 0 ∷ operand 33 0 ∷  -- SubgroupAvcMceSetInterDirectionPenaltyINTEL
    row 5719 ∷ operand 46 0 ∷ operand 47 0 ∷ operand 33 0 ∷ operand 33 0 ∷  -- SubgroupAvcMceGetDefaultIntraLumaShapePenaltyINTEL
    row 5720 ∷ operand 46 0 ∷ operand 47 0 ∷ operand 33 0 ∷ operand 33 0 ∷  -- SubgroupAvcMceGetDefaultInterMotionVectorCostTableINTEL
    row 5721 ∷ operand 46 0 ∷ operand 47 0 ∷  -- SubgroupAvcMceGetDefaultHighPenaltyCostTableINTEL
    row 5722 ∷ operand 46 0 ∷ operand 47 0 ∷  -- SubgroupAvcMceGetDefaultMediumPenaltyCostTableINTEL
    row 5723 ∷ operand 46 0 ∷ operand 47 0 ∷  -- SubgroupAvcMceGetDefaultLowPenaltyCostTableINTEL
    row 5724 ∷ operand 46 0 ∷ operand 47 0 ∷ operand 33 0 ∷ operand 33 0 ∷ operand 33 0 ∷ operand 33 0 ∷  -- SubgroupAvcMceSetMotionVectorCostFunctionINTEL
    row 5725 ∷ operand 46 0 ∷ operand 47 0 ∷ operand 33 0 ∷ operand 33 0 ∷  -- SubgroupAvcMceGetDefaultIntraLumaModePenaltyINTEL
    row 5726 ∷ operand 46 0 ∷ operand 47 0 ∷  -- SubgroupAvcMceGetDefaultNonDcLumaIntraPenaltyINTEL
    row 5727 ∷ operand 46 0 ∷ operand 47 0 ∷  -- SubgroupAvcMceGetDefaultIntraChromaModeBasePenaltyINTEL
    row 5728 ∷ operand 46 0 ∷ operand 47 0 ∷ operand 33 0 ∷  -- SubgroupAvcMceSetAcOnlyHaarINTEL
    row 5729 ∷ operand 46 0 ∷ operand 47 0 ∷ operand 33 0 ∷ operand 33 0 ∷  -- SubgroupAvcMceSetSourceInterlacedFieldPolarityINTEL
    row 5730 ∷ operand 46 0 ∷ operand 47 0 ∷ operand 33 0 ∷ operand 33 0 ∷  -- SubgroupAvcMceSetSingleReferenceInterlacedFieldPolarityINTEL
    row 5731 ∷ operand 46 0 ∷ operand 47 0 ∷ operand 33 0 ∷ operand 33 0 ∷ operand 33 0 ∷  -- SubgroupAvcMceSetDualReferenceInterlacedFieldPolaritiesINTEL
    row 5732 ∷ operand 46 0 ∷ operand 47 0 ∷ operand 33 0 ∷  -- SubgroupAvcMceConvertToImePayloadINTEL
    row 5733 ∷ operand 46 0 ∷ operand 47 0 ∷ operand 33 0 ∷  -- SubgroupAvcMceConvertToImeResultINTEL
    row 5734 ∷ operand 46 0 ∷ operand 47 0 ∷ operand 33 0 ∷  -- SubgroupAvcMceConvertToRefPayloadINTEL
    row 5735 ∷ operand 46 0 ∷ operand 47 0 ∷ operand 33 0 ∷  -- SubgroupAvcMceConvertToRefResultINTEL
    row 5736 ∷ operand 46 0 ∷ operand 47 0 ∷ operand 33 0 ∷  -- SubgroupAvcMceConvertToSicPayloadINTEL
    row 5737 ∷ operand 46 0 ∷ operand 47 0 ∷ operand 33 0 ∷  -- SubgroupAvcMceConvertToSicResultINTEL
    row 5738 ∷ operand 46 0 ∷ operand 47 0 ∷ operand 33 0 ∷  -- SubgroupAvcMceGetMotionVectorsINTEL
    row 5739 ∷ operand 46 0 ∷ operand 47 0 ∷ operand 33 0 ∷  -- SubgroupAvcMceGetInterDistortionsINTEL
    row 5740 ∷ operand 46 0 ∷ operand 47 0 ∷ operand 33 0 ∷  -- SubgroupAvcMceGetBestInterDistortionsINTEL
    row 5741 ∷ operand 46 0 ∷ operand 47 0 ∷ operand 33 0 ∷  -- SubgroupAvcMceGetInterMajorShapeINTEL
    row 5742 ∷ operand 46 0 ∷ operand 47 0 ∷ operand 33 0 ∷  -- SubgroupAvcMceGetInterMinorShapeINTEL
    row 5743 ∷ operand 46 0 ∷ operand 47 0 ∷ operand 33 0 ∷  -- SubgroupAvcMceGetInterDirectionsINTEL
    row 5744 ∷ operand 46 0 ∷ operand 47 0 ∷ operand 33 0 ∷  -- SubgroupAvcMceGetInterMotionVectorCountINTEL
    row 5745 ∷ operand 46 0 ∷ operand 47 0 ∷ operand 33 0 ∷  -- SubgroupAvcMceGetInterReferenceIdsINTEL
    row 5746 ∷ operand 46 0 ∷ operand 47 0 ∷ operand 33 0 ∷ operand 33 0 ∷ operand 33 0 ∷  -- SubgroupAvcMceGetInterReferenceInterlacedFieldPolaritiesINTEL
    row 5747 ∷ operand 46 0 ∷ operand 47 0 ∷ operand 33 0 ∷ operand 33 0 ∷ operand 33 0 ∷  -- SubgroupAvcImeInitializeINTEL
    row 5748 ∷ operand 46 0 ∷ operand 47 0 ∷ operand 33 0 ∷ operand 33 0 ∷ operand 33 0 ∷  -- SubgroupAvcImeSetSingleReferenceINTEL
    row 5749 ∷ operand 46 0 ∷ operand 47 0 ∷ operand 33 0 ∷ operand 33 0 ∷ operand 33 0 ∷ operand 33 0 ∷  -- SubgroupAvcImeSetDualReferenceINTEL
    row 5750 ∷ operand 46 0 ∷ operand 47 0 ∷ operand 33 0 ∷ operand 33 0 ∷  -- SubgroupAvcImeRefWindowSizeINTEL
    row 5751 ∷ operand 46 0 ∷ operand 47 0 ∷ operand 33 0 ∷ operand 33 0 ∷ operand 33 0 ∷ operand 33 0 ∷  -- SubgroupAvcImeAdjustRefOffsetINTEL
    row 5752 ∷ operand 46 0 ∷ operand 47 0 ∷ operand 33 0 ∷  -- SubgroupAvcImeConvertToMcePayloadINTEL
    row 5753 ∷ operand 46 0 ∷ operand 47 0 ∷ operand 33 0 ∷ operand 33 0 ∷  -- SubgroupAvcImeSetMaxMotionVectorCountINTEL
    row 5754 ∷ operand 46 0 ∷ operand 47 0 ∷ operand 33 0 ∷  -- SubgroupAvcImeSetUnidirectionalMixDisableINTEL
    row 5755 ∷ operand 46 0 ∷ operand 47 0 ∷ operand 33 0 ∷ operand 33 0 ∷  -- SubgroupAvcImeSetEarlySearchTerminationThresholdINTEL
    row 5756 ∷ operand 46 0 ∷ operand 47 0 ∷ operand 33 0 ∷ operand 33 0 ∷  -- SubgroupAvcImeSetWeightedSadINTEL
    row 5757 ∷ operand 46 0 ∷ operand 47 0 ∷ operand 33 0 ∷ operand 33 0 ∷ operand 33 0 ∷  -- SubgroupAvcImeEvaluateWithSingleReferenceINTEL
    row 5758 ∷ operand 46 0 ∷ operand 47 0 ∷ operand 33 0 ∷ operand 33 0 ∷ operand 33 0 ∷ operand 33 0 ∷  -- SubgroupAvcImeEvaluateWithDualReferenceINTEL
    row 5759 ∷ operand 46 0 ∷ operand 47 0 ∷ operand 33 0 ∷ operand 33 0 ∷ operand 33 0 ∷ operand 33 0 ∷  -- SubgroupAvcImeEvaluateWithSingleReferenceStreaminINTEL
    row 5760 ∷ operand 46 0 ∷ operand 47 0 ∷ operand 33 0 ∷ operand 33 0 ∷ operand 33 0 ∷ operand 33 0 ∷ operand 33 0 ∷  -- SubgroupAvcImeEvaluateWithDualReferenceStreaminINTEL
    row 5761 ∷ operand 46 0 ∷ operand 47 0 ∷ operand 33 0 ∷ operand 33 0 ∷ operand 33 0 ∷  -- SubgroupAvcImeEvaluateWithSingleReferenceStreamoutINTEL
    row 5762 ∷ operand 46 0 ∷ operand 47 0 ∷ operand 33 0 ∷ operand 33 0 ∷ operand 33 0 ∷ operand 33 0 ∷  -- SubgroupAvcImeEvaluateWithDualReferenceStreamoutINTEL
    row 5763 ∷ operand 46 0 ∷ operand 47 0 ∷ operand 33 0 ∷ operand 33 0 ∷ operand 33 0 ∷ operand 33 0 ∷  -- SubgroupAvcImeEvaluateWithSingleReferenceStreaminoutINTEL
    row 5764 ∷ operand 46 0 ∷ operand 47 0 ∷ operand 33 0 ∷ operand 33 0 ∷ operand 33 0 ∷ operand 33 0 ∷ operand 33 0 ∷  -- SubgroupAvcImeEvaluateWithDualReferenceStreaminoutINTEL
    row 5765 ∷ operand 46 0 ∷ operand 47 0 ∷ operand 33 0 ∷  -- SubgroupAvcImeConvertToMceResultINTEL
    row 5766 ∷ operand 46 0 ∷ operand 47 0 ∷ operand 33 0 ∷  -- SubgroupAvcImeGetSingleReferenceStreaminINTEL
    row 5767 ∷ operand 46 0 ∷ operand 47 0 ∷ operand 33 0 ∷  -- SubgroupAvcImeGetDualReferenceStreaminINTEL
    row 5768 ∷ operand 46 0 ∷ operand 47 0 ∷ operand 33 0 ∷  -- SubgroupAvcImeStripSingleReferenceStreamoutINTEL
    row 5769 ∷ operand 46 0 ∷ operand 47 0 ∷ operand 33 0 ∷  -- SubgroupAvcImeStripDualReferenceStreamoutINTEL
    row 5770 ∷ operand 46 0 ∷ operand 47 0 ∷ operand 33 0 ∷ operand 33 0 ∷  -- SubgroupAvcImeGetStreamoutSingleReferenceMajorShapeMotionVectorsINTEL
    row 5771 ∷ operand 46 0 ∷ operand 47 0 ∷ operand 33 0 ∷ operand 33 0 ∷  -- SubgroupAvcImeGetStreamoutSingleReferenceMajorShapeDistortionsINTEL
    row 5772 ∷ operand 46 0 ∷ operand 47 0 ∷ operand 33 0 ∷ operand 33 0 ∷  -- SubgroupAvcImeGetStreamoutSingleReferenceMajorShapeReferenceIdsINTEL
    row 5773 ∷ operand 46 0 ∷ operand 47 0 ∷ operand 33 0 ∷ operand 33 0 ∷ operand 33 0 ∷  -- SubgroupAvcImeGetStreamoutDualReferenceMajorShapeMotionVectorsINTEL
    row 5774 ∷ operand 46 0 ∷ operand 47 0 ∷ operand 33 0 ∷ operand 33 0 ∷ operand 33 0 ∷  -- SubgroupAvcImeGetStreamoutDualReferenceMajorShapeDistortionsINTEL
    row 5775 ∷ operand 46 0 ∷ operand 47 0 ∷ operand 33 0 ∷ operand 33 0 ∷ operand 33 0 ∷  -- SubgroupAvcImeGetStreamoutDualReferenceMajorShapeReferenceIdsINTEL
    row 5776 ∷ operand 46 0 ∷ operand 47 0 ∷ operand 33 0 ∷ operand 33 0 ∷  -- SubgroupAvcImeGetBorderReachedINTEL
    row 5777 ∷ operand 46 0 ∷ operand 47 0 ∷ operand 33 0 ∷  -- SubgroupAvcImeGetTruncatedSearchIndicationINTEL
    row 5778 ∷ operand 46 0 ∷ operand 47 0 ∷ operand 33 0 ∷  -- SubgroupAvcImeGetUnidirectionalEarlySearchTerminationINTEL
    row 5779 ∷ operand 46 0 ∷ operand 47 0 ∷ operand 33 0 ∷  -- SubgroupAvcImeGetWeightingPatternMinimumMotionVectorINTEL
    row 5780 ∷ operand 46 0 ∷ operand 47 0 ∷ operand 33 0 ∷  -- SubgroupAvcImeGetWeightingPatternMinimumDistortionINTEL
    row 5781 ∷ operand 46 0 ∷ operand 47 0 ∷ operand 33 0 ∷ operand 33 0 ∷ operand 33 0 ∷ operand 33 0 ∷ operand 33 0 ∷ operand 33 0 ∷ operand 33 0 ∷  -- SubgroupAvcFmeInitializeINTEL
    row 5782 ∷ operand 46 0 ∷ operand 47 0 ∷ operand 33 0 ∷ operand 33 0 ∷ operand 33 0 ∷ operand 33 0 ∷ operand 33 0 ∷ operand 33 0 ∷ operand 33 0 ∷ operand 33 0 ∷  -- SubgroupAvcBmeInitializeINTEL
    row 5783 ∷ operand 46 0 ∷ operand 47 0 ∷ operand 33 0 ∷  -- SubgroupAvcRefConvertToMcePayloadINTEL
    row 5784 ∷ operand 46 0 ∷ operand 47 0 ∷ operand 33 0 ∷  -- SubgroupAvcRefSetBidirectionalMixDisableINTEL
    row 5785 ∷ operand 46 0 ∷ operand 47 0 ∷ operand 33 0 ∷  -- SubgroupAvcRefSetBilinearFilterEnableINTEL
    row 5786 ∷ operand 46 0 ∷ operand 47 0 ∷ operand 33 0 ∷ operand 33 0 ∷ operand 33 0 ∷  -- SubgroupAvcRefEvaluateWithSingleReferenceINTEL
    row 5787 ∷ operand 46 0 ∷ operand 47 0 ∷ operand 33 0 ∷ operand 33 0 ∷ operand 33 0 ∷ operand 33 0 ∷  -- SubgroupAvcRefEvaluateWithDualReferenceINTEL
    row 5788 ∷ operand 46 0 ∷ operand 47 0 ∷ operand 33 0 ∷ operand 33 0 ∷ operand 33 0 ∷  -- SubgroupAvcRefEvaluateWithMultiReferenceINTEL
    row 5789 ∷ operand 46 0 ∷ operand 47 0 ∷ operand 33 0 ∷ operand 33 0 ∷ operand 33 0 ∷ operand 33 0 ∷  -- SubgroupAvcRefEvaluateWithMultiReferenceInterlacedINTEL
    row 5790 ∷ operand 46 0 ∷ operand 47 0 ∷ operand 33 0 ∷  -- SubgroupAvcRefConvertToMceResultINTEL
    row 5791 ∷ operand 46 0 ∷ operand 47 0 ∷ operand 33 0 ∷  -- SubgroupAvcSicInitializeINTEL
    row 5792 ∷ operand 46 0 ∷ operand 47 0 ∷ operand 33 0 ∷ operand 33 0 ∷ operand 33 0 ∷ operand 33 0 ∷ operand 33 0 ∷ operand 33 0 ∷  -- SubgroupAvcSicConfigureSkcINTEL
    row 5793 ∷ operand 46 0 ∷ operand 47 0 ∷ operand 33 0 ∷ operand 33 0 ∷ operand 33 0 ∷ operand 33 0 ∷ operand 33 0 ∷ operand 33 0 ∷ operand 33 0 ∷ operand 33 0 ∷  -- SubgroupAvcSicConfigureIpeLumaINTEL
    row 5794 ∷ operand 46 0 ∷ operand 47 0 ∷ operand 33 0 ∷ operand 33 0 ∷ operand 33 0 ∷ operand 33 0 ∷ operand 33 0 ∷ operand 33 0 ∷ operand 33 0 ∷ operand 33 0 ∷ operand 33 0 ∷ operand 33 0 ∷ operand 33 0 ∷  -- SubgroupAvcSicConfigureIpeLumaChromaINTEL
    row 5795 ∷ operand 46 0 ∷ operand 47 0 ∷ operand 33 0 ∷ operand 33 0 ∷  -- SubgroupAvcSicGetMotionVectorMaskINTEL
    row 5796 ∷ operand 46 0 ∷ operand 47 0 ∷ operand 33 0 ∷  -- SubgroupAvcSicConvertToMcePayloadINTEL
    row 5797 ∷ operand 46 0 ∷ operand 47 0 ∷ operand 33 0 ∷ operand 33 0 ∷  -- SubgroupAvcSicSetIntraLumaShapePenaltyINTEL
    row 5798 ∷ operand 46 0 ∷ operand 47 0 ∷ operand 33 0 ∷ operand 33 0 ∷ operand 33 0 ∷ operand 33 0 ∷  -- SubgroupAvcSicSetIntraLumaModeCostFunctionINTEL
    row 5799 ∷ operand 46 0 ∷ operand 47 0 ∷ operand 33 0 ∷ operand 33 0 ∷  -- SubgroupAvcSicSetIntraChromaModeCostFunctionINTEL
    row 5800 ∷ operand 46 0 ∷ operand 47 0 ∷ operand 33 0 ∷  -- SubgroupAvcSicSetBilinearFilterEnableINTEL
    row 5801 ∷ operand 46 0 ∷ operand 47 0 ∷ operand 33 0 ∷ operand 33 0 ∷  -- SubgroupAvcSicSetSkcForwardTransformEnableINTEL
    row 5802 ∷ operand 46 0 ∷ operand 47 0 ∷ operand 33 0 ∷ operand 33 0 ∷  -- SubgroupAvcSicSetBlockBasedRawSkipSadINTEL
    row 5803 ∷ operand 46 0 ∷ operand 47 0 ∷ operand 33 0 ∷ operand 33 0 ∷  -- SubgroupAvcSicEvaluateIpeINTEL
    row 5804 ∷ operand 46 0 ∷ operand 47 0 ∷ operand 33 0 ∷ operand 33 0 ∷ operand 33 0 ∷  -- SubgroupAvcSicEvaluateWithSingleReferenceINTEL
    row 5805 ∷ operand 46 0 ∷ operand 47 0 ∷ operand 33 0 ∷ operand 33 0 ∷ operand 33 0 ∷ operand 33 0 ∷  -- SubgroupAvcSicEvaluateWithDualReferenceINTEL
    row 5806 ∷ operand 46 0 ∷ operand 47 0 ∷ operand 33 0 ∷ operand 33 0 ∷ operand 33 0 ∷  -- SubgroupAvcSicEvaluateWithMultiReferenceINTEL
    row 5807 ∷ operand 46 0 ∷ operand 47 0 ∷ operand 33 0 ∷ operand 33 0 ∷ operand 33 0 ∷ operand 33 0 ∷  -- SubgroupAvcSicEvaluateWithMultiReferenceInterlacedINTEL
    row 5808 ∷ operand 46 0 ∷ operand 47 0 ∷ operand 33 0 ∷  -- SubgroupAvcSicConvertToMceResultINTEL
    row 5809 ∷ operand 46 0 ∷ operand 47 0 ∷ operand 33 0 ∷  -- SubgroupAvcSicGetIpeLumaShapeINTEL
    row 5810 ∷ operand 46 0 ∷ operand 47 0 ∷ operand 33 0 ∷  -- SubgroupAvcSicGetBestIpeLumaDistortionINTEL
    row 5811 ∷ operand 46 0 ∷ operand 47 0 ∷ operand 33 0 ∷  -- SubgroupAvcSicGetBestIpeChromaDistortionINTEL
    row 5812 ∷ operand 46 0 ∷ operand 47 0 ∷ operand 33 0 ∷  -- SubgroupAvcSicGetPackedIpeLumaModesINTEL
    row 5813 ∷ operand 46 0 ∷ operand 47 0 ∷ operand 33 0 ∷  -- SubgroupAvcSicGetIpeChromaModeINTEL
    row 5814 ∷ operand 46 0 ∷ operand 47 0 ∷ operand 33 0 ∷  -- SubgroupAvcSicGetPackedSkcLumaCountThresholdINTEL
    row 5815 ∷ operand 46 0 ∷ operand 47 0 ∷ operand 33 0 ∷  -- SubgroupAvcSicGetPackedSkcLumaSumThresholdINTEL
    row 5816 ∷ operand 46 0 ∷ operand 47 0 ∷ operand 33 0 ∷  -- SubgroupAvcSicGetInterRawSadsINTEL
    row 5887 ∷ operand 34 2 ∷  -- LoopControlINTEL
    row 5946 ∷ operand 46 0 ∷ operand 47 0 ∷ operand 33 0 ∷ operand 33 0 ∷  -- ReadPipeBlockingINTEL
    row 5947 ∷ operand 46 0 ∷ operand 47 0 ∷ operand 33 0 ∷ operand 33 0 ∷  -- WritePipeBlockingINTEL
    row 5949 ∷ operand 46 0 ∷ operand 47 0 ∷ operand 33 0 ∷ operand 33 0 ∷  -- FPGARegINTEL
    row 6016 ∷ operand 46 0 ∷ operand 47 0 ∷ operand 33 0 ∷  -- RayQueryGetRayTMinKHR
    row 6017 ∷ operand 46 0 ∷ operand 47 0 ∷ operand 33 0 ∷  -- RayQueryGetRayFlagsKHR
    row 6018 ∷ operand 46 0 ∷ operand 47 0 ∷ operand 33 0 ∷ operand 33 0 ∷  -- RayQueryGetIntersectionTKHR
    row 6019 ∷ operand 46 0 ∷ operand 47 0 ∷ operand 33 0 ∷ operand 33 0 ∷  -- RayQueryGetIntersectionInstanceCustomIndexKHR
    row 6020 ∷ operand 46 0 ∷ operand 47 0 ∷ operand 33 0 ∷ operand 33 0 ∷  -- RayQueryGetIntersectionInstanceIdKHR
    row 6021 ∷ operand 46 0 ∷ operand 47 0 ∷ operand 33 0 ∷ operand 33 0 ∷  -- RayQueryGetIntersectionInstanceShaderBindingTableRecordOffsetKHR
    row 6022 ∷ operand 46 0 ∷ operand 47 0 ∷ operand 33 0 ∷ operand 33 0 ∷  -- RayQueryGetIntersectionGeometryIndexKHR
    row 6023 ∷ operand 46 0 ∷ operand 47 0 ∷ operand 33 0 ∷ operand 33 0 ∷  -- RayQueryGetIntersectionPrimitiveIndexKHR
    row 6024 ∷ operand 46 0 ∷ operand 47 0 ∷ operand 33 0 ∷ operand 33 0 ∷  -- RayQueryGetIntersectionBarycentricsKHR
    row 6025 ∷ operand 46 0 ∷ operand 47 0 ∷ operand 33 0 ∷ operand 33 0 ∷  -- RayQueryGetIntersectionFrontFaceKHR
    row 6026 ∷ operand 46 0 ∷ operand 47 0 ∷ operand 33 0 ∷  -- RayQueryGetIntersectionCandidateAABBOpaqueKHR
    row 6027 ∷ operand 46 0 ∷ operand 47 0 ∷ operand 33 0 ∷ operand 33 0 ∷  -- RayQueryGetIntersectionObjectRayDirectionKHR
    row 6028 ∷ operand 46 0 ∷ operand 47 0 ∷ operand 33 0 ∷ operand 33 0 ∷  -- RayQueryGetIntersectionObjectRayOriginKHR
    row 6029 ∷ operand 46 0 ∷ operand 47 0 ∷ operand 33 0 ∷  -- RayQueryGetWorldRayDirectionKHR
    row 6030 ∷ operand 46 0 ∷ operand 47 0 ∷ operand 33 0 ∷  -- RayQueryGetWorldRayOriginKHR
    row 6031 ∷ operand 46 0 ∷ operand 47 0 ∷ operand 33 0 ∷ operand 33 0 ∷  -- RayQueryGetIntersectionObjectToWorldKHR
    row 6032 ∷ operand 46 0 ∷ operand 47 0 ∷ operand 33 0 ∷ operand 33 0 ∷  -- RayQueryGetIntersectionWorldToObjectKHR
    row 6035 ∷ operand 46 0 ∷ operand 47 0 ∷ operand 33 0 ∷ operand 32 0 ∷ operand 31 0 ∷ operand 33 0 ∷  -- AtomicFAddEXT
    -- kind 1, ImageOperands
    enumerant 1 0 ∷  -- NONE
    enumerant 1 1 ∷ parameter 33 ∷  -- BIAS
    enumerant 1 2 ∷ parameter 33 ∷  -- LOD
    enumerant 1 4 ∷ parameter 33 ∷ parameter 33 ∷  -- GRAD
    enumerant 1 8 ∷ parameter 33 ∷  -- CONST_OFFSET
    enumerant 1 16 ∷ parameter 33 ∷  -- OFFSET
    enumerant 1 32 ∷ parameter 33 ∷  -- CONST_OFFSETS
    enumerant 1 64 ∷ parameter 33 ∷  -- SAMPLE
    enumerant 1 128 ∷ parameter 33 ∷  -- MIN_LOD
    enumerant 1 256 ∷ parameter 32 ∷  -- MAKE_TEXEL_AVAILABLE
    enumerant 1 512 ∷ parameter 32 ∷  -- MAKE_TEXEL_VISIBLE
    enumerant 1 1024 ∷  -- NON_PRIVATE_TEXEL
    enumerant 1 2048 ∷  -- VOLATILE_TEXEL
    enumerant 1 4096 ∷  -- SIGN_EXTEND
    enumerant 1 8192 ∷  -- ZERO_EXTEND
    -- kind 2, FPFastMathMode
    enumerant 2 0 ∷  -- NONE
    enumerant 2 1 ∷  -- NOT_NAN
    enumerant 2 2 ∷  -- NOT_INF
    enumerant 2 4 ∷  -- NSZ
    enumerant 2 8 ∷  -- ALLOW_RECIP
    enumerant 2 16 ∷  -- FAST
    -- kind 3, SelectionControl
    enumerant 3 0 ∷  -- NONE
    enumerant 3 1 ∷  -- FLATTEN
    enumerant 3 2 ∷  -- DONT_FLATTEN
    -- kind 4, LoopControl
    enumerant 4 0 ∷  -- NONE
    enumerant 4 1 ∷  -- UNROLL
    enumerant 4 2 ∷  -- DONT_UNROLL
    enumerant 4 4 ∷  -- DEPENDENCY_INFINITE
    enumerant 4 8 ∷ parameter 34 ∷  -- DEPENDENCY_LENGTH
    enumerant 4 16 ∷ parameter 34 ∷  -- MIN_ITERATIONS
    enumerant 4 32 ∷ parameter 34 ∷  -- MAX_ITERATIONS
    enumerant 4 64 ∷ parameter 34 ∷  -- ITERATION_MULTIPLE
    enumerant 4 128 ∷ parameter 34 ∷  -- PEEL_COUNT
    enumerant 4 256 ∷ parameter 34 ∷  -- PARTIAL_COUNT
    enumerant 4 65536 ∷ parameter 34 ∷  -- INITIATION_INTERVAL_INTEL
    enumerant 4 131072 ∷ parameter 34 ∷  -- MAX_CONCURRENCY_INTEL
    enumerant 4 262144 ∷ parameter 34 ∷  -- DEPENDENCY_ARRAY_INTEL
    enumerant 4 524288 ∷ parameter 34 ∷  -- PIPELINE_ENABLE_INTEL
    enumerant 4 1048576 ∷ parameter 34 ∷  -- LOOP_COALESCE_INTEL
    enumerant 4 2097152 ∷ parameter 34 ∷  -- MAX_INTERLEAVING_INTEL
    enumerant 4 4194304 ∷ parameter 34 ∷  -- SPECULATED_ITERATIONS_INTEL
    -- kind 5, FunctionControl
    enumerant 5 0 ∷  -- NONE
    enumerant 5 1 ∷  -- INLINE
    enumerant 5 2 ∷  -- DONT_INLINE
    enumerant 5 4 ∷  -- PURE
    enumerant 5 8 ∷  -- CONST
    -- kind 6, MemorySemantics
    enumerant 6 0 ∷  -- RELAXED
    enumerant 6 2 ∷  -- ACQUIRE
    enumerant 6 4 ∷  -- RELEASE
    enumerant 6 8 ∷  -- ACQUIRE_RELEASE
    enumerant 6 16 ∷  -- SEQUENTIALLY_CONSISTENT
    enumerant 6 64 ∷  -- UNIFORM_MEMORY
    enumerant 6 128 ∷  -- SUBGROUP_MEMORY
    enumerant 6 256 ∷  -- WORKGROUP_MEMORY
    enumerant 6 512 ∷  -- CROSS_WORKGROUP_MEMORY
    enumerant 6 1024 ∷  -- ATOMIC_COUNTER_MEMORY
    enumerant 6 2048 ∷  -- IMAGE_MEMORY
    enumerant 6 4096 ∷  -- OUTPUT_MEMORY
    enumerant 6 8192 ∷  -- MAKE_AVAILABLE
    enumerant 6 16384 ∷  -- MAKE_VISIBLE
    enumerant 6 32768 ∷  -- VOLATILE
    -- kind 7, MemoryAccess
    enumerant 7 0 ∷  -- NONE
    enumerant 7 1 ∷  -- VOLATILE
    enumerant 7 2 ∷ parameter 34 ∷  -- ALIGNED
    enumerant 7 4 ∷  -- NONTEMPORAL
    enumerant 7 8 ∷ parameter 32 ∷  -- MAKE_POINTER_AVAILABLE
    enumerant 7 16 ∷ parameter 32 ∷  -- MAKE_POINTER_VISIBLE
    enumerant 7 32 ∷  -- NON_PRIVATE_POINTER
    -- kind 8, KernelProfilingInfo
    enumerant 8 0 ∷  -- NONE
    enumerant 8 1 ∷  -- CMD_EXEC_TIME
    -- kind 9, SourceLanguage
    enumerant 9 0 ∷  -- Unknown
    enumerant 9 1 ∷  -- ESSL
    enumerant 9 2 ∷  -- GLSL
    enumerant 9 3 ∷  -- OpenCL_C
    enumerant 9 4 ∷  -- OpenCL_CPP
    enumerant 9 5 ∷  -- HLSL
    -- kind 10, ExecutionModel
    enumerant 10 0 ∷  -- Vertex
    enumerant 10 1 ∷  -- TessellationControl
    enumerant 10 2 ∷  -- TessellationEvaluation
    enumerant 10 3 ∷  -- Geometry
    enumerant 10 4 ∷  -- Fragment
    enumerant 10 5 ∷  -- GLCompute
    enumerant 10 6 ∷  -- Kernel
    enumerant 10 5267 ∷  -- TaskNV
    enumerant 10 5268 ∷  -- MeshNV
    enumerant 10 5313 ∷  -- RayGenerationNV
    enumerant 10 5314 ∷  -- IntersectionNV
    enumerant 10 5315 ∷  -- AnyHitNV
    enumerant 10 5316 ∷  -- ClosestHitNV
    enumerant 10 5317 ∷  -- MissNV
    enumerant 10 5318 ∷  -- CallableNV
    -- kind 11, AddressingModel
    enumerant 11 0 ∷  -- Logical
    enumerant 11 1 ∷  -- Physical32
    enumerant 11 2 ∷  -- Physical64
    enumerant 11 5348 ∷  -- PhysicalStorageBuffer64
    -- kind 12, MemoryModel
    enumerant 12 0 ∷  -- Simple
    enumerant 12 1 ∷  -- GLSL450
    enumerant 12 2 ∷  -- OpenCL
    enumerant 12 3 ∷  -- Vulkan
    -- kind 13, ExecutionMode
    enumerant 13 0 ∷ parameter 34 ∷  -- Invocations
    enumerant 13 1 ∷  -- SpacingEqual
    enumerant 13 2 ∷  -- SpacingFractionalEven
    enumerant 13 3 ∷  -- SpacingFractionalOdd
    enumerant 13 4 ∷  -- VertexOrderCw
    enumerant 13 5 ∷  -- VertexOrderCcw
    enumerant 13 6 ∷  -- PixelCenterInteger
    enumerant 13 7 ∷  -- OriginUpperLeft
    enumerant 13 8 ∷  -- OriginLowerLeft
    enumerant 13 9 ∷  -- EarlyFragmentTests
    enumerant 13 10 ∷  -- PointMode
    enumerant 13 11 ∷  -- Xfb
    enumerant 13 12 ∷  -- DepthReplacing
    enumerant 13 14 ∷  -- DepthGreater
    enumerant 13 15 ∷  -- DepthLess
    enumerant 13 16 ∷  -- DepthUnchanged
    enumerant 13 17 ∷ parameter 34 ∷ parameter 34 ∷ parameter 34 ∷  -- LocalSize
    enumerant 13 18 ∷ parameter 34 ∷ parameter 34 ∷ parameter 34 ∷  -- LocalSizeHint
    enumerant 13 19 ∷  -- InputPoints
    enumerant 13 20 ∷  -- InputLines
    enumerant 13 21 ∷  -- InputLinesAdjacency
    enumerant 13 22 ∷  -- Triangles
    enumerant 13 23 ∷  -- InputTrianglesAdjacency
    enumerant 13 24 ∷  -- Quads
    enumerant 13 25 ∷  -- Isolines
    enumerant 13 26 ∷ parameter 34 ∷  -- OutputVertices
    enumerant 13 27 ∷  -- OutputPoints
    enumerant 13 28 ∷  -- OutputLineStrip
    enumerant 13 29 ∷  -- OutputTriangleStrip
    enumerant 13 30 ∷ parameter 34 ∷  -- VecTypeHint
    enumerant 13 31 ∷  -- ContractionOff
    enumerant 13 33 ∷  -- Initializer
    enumerant 13 34 ∷  -- Finalizer
    enumerant 13 35 ∷ parameter 34 ∷  -- SubgroupSize
    enumerant 13 36 ∷ parameter 34 ∷  -- SubgroupsPerWorkgroup
    enumerant 13 37 ∷ parameter 33 ∷  -- SubgroupsPerWorkgroupId
    enumerant 13 38 ∷ parameter 33 ∷ parameter 33 ∷ parameter 33 ∷  -- LocalSizeId
    enumerant 13 39 ∷ parameter 33 ∷  -- LocalSizeHintId
    enumerant 13 4446 ∷  -- PostDepthCoverage
    enumerant 13 4459 ∷ parameter 34 ∷  -- DenormPreserve
    enumerant 13 4460 ∷ parameter 34 ∷  -- DenormFlushToZero
    enumerant 13 4461 ∷ parameter 34 ∷  -- SignedZeroInfNanPreserve
    enumerant 13 4462 ∷ parameter 34 ∷  -- RoundingModeRTE
    enumerant 13 4463 ∷ parameter 34 ∷  -- RoundingModeRTZ
    enumerant 13 5027 ∷  -- StencilRefReplacingEXT
    enumerant 13 5269 ∷  -- OutputLinesNV
    enumerant 13 5270 ∷ parameter 34 ∷  -- OutputPrimitivesNV
    enumerant 13 5289 ∷  -- DerivativeGroupQuadsNV
    enumerant 13 5290 ∷  -- DerivativeGroupLinearNV
    enumerant 13 5298 ∷  -- OutputTrianglesNV
    enumerant 13 5366 ∷  -- PixelInterlockOrderedEXT
    enumerant 13 5367 ∷  -- PixelInterlockUnorderedEXT
    enumerant 13 5368 ∷  -- SampleInterlockOrderedEXT
    enumerant 13 5369 ∷  -- SampleInterlockUnorderedEXT
    enumerant 13 5370 ∷  -- ShadingRateInterlockOrderedEXT
    enumerant 13 5371 ∷  -- ShadingRateInterlockUnorderedEXT
    enumerant 13 5893 ∷ parameter 34 ∷ parameter 34 ∷ parameter 34 ∷  -- MaxWorkgroupSizeINTEL
    enumerant 13 5894 ∷ parameter 34 ∷  -- MaxWorkDimINTEL
    enumerant 13 5895 ∷  -- NoGlobalOffsetINTEL
    enumerant 13 5896 ∷ parameter 34 ∷  -- NumSIMDWorkitemsINTEL
    -- kind 14, StorageClass
    enumerant 14 0 ∷  -- UniformConstant
    enumerant 14 1 ∷  -- Input
    enumerant 14 2 ∷  -- Uniform
    enumerant 14 3 ∷  -- Output
    enumerant 14 4 ∷  -- Workgroup
    enumerant 14 5 ∷  -- CrossWorkgroup
    enumerant 14 6 ∷  -- Private
    enumerant 14 7 ∷  -- Function
    enumerant 14 8 ∷  -- Generic
    enumerant 14 9 ∷  -- PushConstant
    enumerant 14 10 ∷  -- AtomicCounter
    enumerant 14 11 ∷  -- Image
    enumerant 14 12 ∷  -- StorageBuffer
    enumerant 14 5328 ∷  -- CallableDataNV
    enumerant 14 5329 ∷  -- IncomingCallableDataNV
    enumerant 14 5338 ∷  -- RayPayloadNV
    enumerant 14 5339 ∷  -- HitAttributeNV
    enumerant 14 5342 ∷  -- IncomingRayPayloadNV
    enumerant 14 5343 ∷  -- ShaderRecordBufferNV
    enumerant 14 5349 ∷  -- PhysicalStorageBuffer
    enumerant 14 5605 ∷  -- CodeSectionINTEL
    -- kind 15, Dim
    enumerant 15 0 ∷  -- Dim1D
    enumerant 15 1 ∷  -- Dim2D
    enumerant 15 2 ∷  -- Dim3D
    enumerant 15 3 ∷  -- DimCube
    enumerant 15 4 ∷  -- DimRect
    enumerant 15 5 ∷  -- DimBuffer
    enumerant 15 6 ∷  -- DimSubpassData
    -- kind 16, SamplerAddressingMode
    enumerant 16 0 ∷  -- None
    enumerant 16 1 ∷  -- ClampToEdge
    enumerant 16 2 ∷  -- Clamp
    enumerant 16 3 ∷  -- Repeat
    enumerant 16 4 ∷  -- RepeatMirrored
    -- kind 17, SamplerFilterMode
    enumerant 17 0 ∷  -- Nearest
    enumerant 17 1 ∷  -- Linear
    -- kind 18, ImageFormat
    enumerant 18 0 ∷  -- Unknown
    enumerant 18 1 ∷  -- Rgba32f
    enumerant 18 2 ∷  -- Rgba16f
    enumerant 18 3 ∷  -- R32f
    enumerant 18 4 ∷  -- Rgba8
    enumerant 18 5 ∷  -- Rgba8Snorm
    enumerant 18 6 ∷  -- Rg32f
    enumerant 18 7 ∷  -- Rg16f
    enumerant 18 8 ∷  -- R11fG11fB10f
    enumerant 18 9 ∷  -- R16f
    enumerant 18 10 ∷  -- Rgba16
    enumerant 18 11 ∷  -- Rgb10A2
    enumerant 18 12 ∷  -- Rg16
    enumerant 18 13 ∷  -- Rg8
    enumerant 18 14 ∷  -- R16
    enumerant 18 15 ∷  -- R8
    enumerant 18 16 ∷  -- Rgba16Snorm
    enumerant 18 17 ∷  -- Rg16Snorm
    enumerant 18 18 ∷  -- Rg8Snorm
    enumerant 18 19 ∷  -- R16Snorm
    enumerant 18 20 ∷  -- R8Snorm
    enumerant 18 21 ∷  -- Rgba32i
    enumerant 18 22 ∷  -- Rgba16i
    enumerant 18 23 ∷  -- Rgba8i
    enumerant 18 24 ∷  -- R32i
    enumerant 18 25 ∷  -- Rg32i
    enumerant 18 26 ∷  -- Rg16i
    enumerant 18 27 ∷  -- Rg8i
    enumerant 18 28 ∷  -- R16i
    enumerant 18 29 ∷  -- R8i
    enumerant 18 30 ∷  -- Rgba32ui
    enumerant 18 31 ∷  -- Rgba16ui
    enumerant 18 32 ∷  -- Rgba8ui
    enumerant 18 33 ∷  -- R32ui
    enumerant 18 34 ∷  -- Rgb10a2ui
    enumerant 18 35 ∷  -- Rg32ui
    enumerant 18 36 ∷  -- Rg16ui
    enumerant 18 37 ∷  -- Rg8ui
    enumerant 18 38 ∷  -- R16ui
    enumerant 18 39 ∷  -- R8ui
    enumerant 18 40 ∷  -- R64ui
    enumerant 18 41 ∷  -- R64i
    -- kind 19, ImageChannelOrder
    enumerant 19 0 ∷  -- R
    enumerant 19 1 ∷  -- A
    enumerant 19 2 ∷  -- RG
    enumerant 19 3 ∷  -- RA
    enumerant 19 4 ∷  -- RGB
    enumerant 19 5 ∷  -- RGBA
    enumerant 19 6 ∷  -- BGRA
    enumerant 19 7 ∷  -- ARGB
    enumerant 19 8 ∷  -- Intensity
    enumerant 19 9 ∷  -- Luminance
    enumerant 19 10 ∷  -- Rx
    enumerant 19 11 ∷  -- RGx
    enumerant 19 12 ∷  -- RGBx
    enumerant 19 13 ∷  -- Depth
    enumerant 19 14 ∷  -- DepthStencil
    enumerant 19 15 ∷  -- sRGB
    enumerant 19 16 ∷  -- sRGBx
    enumerant 19 17 ∷  -- sRGBA
    enumerant 19 18 ∷  -- sBGRA
    enumerant 19 19 ∷  -- ABGR
    -- kind 20, ImageChannelDataType
    enumerant 20 0 ∷  -- SnormInt8
    enumerant 20 1 ∷  -- SnormInt16
    enumerant 20 2 ∷  -- UnormInt8
    enumerant 20 3 ∷  -- UnormInt16
    enumerant 20 4 ∷  -- UnormShort565
    enumerant 20 5 ∷  -- UnormShort555
    enumerant 20 6 ∷  -- UnormInt101010
    enumerant 20 7 ∷  -- SignedInt8
    enumerant 20 8 ∷  -- SignedInt16
    enumerant 20 9 ∷  -- SignedInt32
    enumerant 20 10 ∷  -- UnsignedInt8
    enumerant 20 11 ∷  -- UnsignedInt16
    enumerant 20 12 ∷  -- UnsignedInt32
    enumerant 20 13 ∷  -- HalfFloat
    enumerant 20 14 ∷  -- Float
    enumerant 20 15 ∷  -- UnormInt24
    enumerant 20 16 ∷  -- UnormInt101010_2
    -- kind 21, FPRoundingMode
    enumerant 21 0 ∷  -- RTE
    enumerant 21 1 ∷  -- RTZ
    enumerant 21 2 ∷  -- RTP
    enumerant 21 3 ∷  -- RTN
    -- kind 22, LinkageType
    enumerant 22 0 ∷  -- Export
    enumerant 22 1 ∷  -- Import
    -- kind 23, AccessQualifier
    enumerant 23 0 ∷  -- ReadOnly
    enumerant 23 1 ∷  -- WriteOnly
    enumerant 23 2 ∷  -- ReadWrite
    -- kind 24, FunctionParameterAttribute
    enumerant 24 0 ∷  -- Zext
    enumerant 24 1 ∷  -- Sext
    enumerant 24 2 ∷  -- ByVal
    enumerant 24 3 ∷  -- Sret
    enumerant 24 4 ∷  -- NoAlias
    enumerant 24 5 ∷  -- NoCapture
    enumerant 24 6 ∷  -- NoWrite
    enumerant 24 7 ∷  -- NoReadWrite
    -- kind 25, Decoration
    enumerant 25 0 ∷  -- RelaxedPrecision
    enumerant 25 1 ∷ parameter 34 ∷  -- SpecId
    enumerant 25 2 ∷  -- Block
    enumerant 25 3 ∷  -- BufferBlock
    enumerant 25 4 ∷  -- RowMajor
    enumerant 25 5 ∷  -- ColMajor
    enumerant 25 6 ∷ parameter 34 ∷  -- ArrayStride
    enumerant 25 7 ∷ parameter 34 ∷  -- MatrixStride
    enumerant 25 8 ∷  -- GLSLShared
    enumerant 25 9 ∷  -- GLSLPacked
    enumerant 25 10 ∷  -- CPacked
    enumerant 25 11 ∷ parameter 26 ∷  -- BuiltIn
    enumerant 25 13 ∷  -- NoPerspective
    enumerant 25 14 ∷  -- Flat
    enumerant 25 15 ∷  -- Patch
    enumerant 25 16 ∷  -- Centroid
    enumerant 25 17 ∷  -- Sample
    enumerant 25 18 ∷  -- Invariant
    enumerant 25 19 ∷  -- Restrict
    enumerant 25 20 ∷  -- Aliased
    enumerant 25 21 ∷  -- Volatile
    enumerant 25 22 ∷  -- Constant
    enumerant 25 23 ∷  -- Coherent
    enumerant 25 24 ∷  -- NonWritable
    enumerant 25 25 ∷  -- NonReadable
    enumerant 25 26 ∷  -- Uniform
    enumerant 25 27 ∷ parameter 32 ∷  -- UniformId
    enumerant 25 28 ∷  -- SaturatedConversion
    enumerant 25 29 ∷ parameter 34 ∷  -- Stream
    enumerant 25 30 ∷ parameter 34 ∷  -- Location
    enumerant 25 31 ∷ parameter 34 ∷  -- Component
    enumerant 25 32 ∷ parameter 34 ∷  -- Index
    enumerant 25 33 ∷ parameter 34 ∷  -- Binding
    enumerant 25 34 ∷ parameter 34 ∷  -- DescriptorSet
    enumerant 25 35 ∷ parameter 34 ∷  -- Offset
    enumerant 25 36 ∷ parameter 34 ∷  -- XfbBuffer
    enumerant 25 37 ∷ parameter 34 ∷  -- XfbStride
    enumerant 25 38 ∷ parameter 24 ∷  -- FuncParamAttr
    enumerant 25 39 ∷ parameter 21 ∷  -- FPRoundingMode
    enumerant 25 40 ∷ parameter 2 ∷  -- FPFastMathMode
    enumerant 25 41 ∷ parameter 40 ∷ parameter 22 ∷  -- LinkageAttributes
    enumerant 25 42 ∷  -- NoContraction
    enumerant 25 43 ∷ parameter 34 ∷  -- InputAttachmentIndex
    enumerant 25 44 ∷ parameter 34 ∷  -- Alignment
    enumerant 25 45 ∷ parameter 34 ∷  -- MaxByteOffset
    enumerant 25 46 ∷ parameter 33 ∷  -- AlignmentId
    enumerant 25 47 ∷ parameter 33 ∷  -- MaxByteOffsetId
    enumerant 25 4469 ∷  -- NoSignedWrap
    enumerant 25 4470 ∷  -- NoUnsignedWrap
    enumerant 25 4999 ∷  -- ExplicitInterpAMD
    enumerant 25 5248 ∷  -- OverrideCoverageNV
    enumerant 25 5250 ∷  -- PassthroughNV
    enumerant 25 5252 ∷  -- ViewportRelativeNV
    enumerant 25 5256 ∷ parameter 34 ∷  -- SecondaryViewportRelativeNV
    enumerant 25 5271 ∷  -- PerPrimitiveNV
    enumerant 25 5272 ∷  -- PerViewNV
    enumerant 25 5273 ∷  -- PerTaskNV
    enumerant 25 5285 ∷  -- PerVertexNV
    enumerant 25 5300 ∷  -- NonUniform
    enumerant 25 5355 ∷  -- RestrictPointer
    enumerant 25 5356 ∷  -- AliasedPointer
    enumerant 25 5602 ∷  -- ReferencedIndirectlyINTEL
    enumerant 25 5634 ∷ parameter 33 ∷  -- CounterBuffer
    enumerant 25 5635 ∷ parameter 40 ∷  -- UserSemantic
    enumerant 25 5636 ∷ parameter 40 ∷  -- UserTypeGOOGLE
    enumerant 25 5825 ∷  -- RegisterINTEL
    enumerant 25 5826 ∷ parameter 40 ∷  -- MemoryINTEL
    enumerant 25 5827 ∷ parameter 34 ∷  -- NumbanksINTEL
    enumerant 25 5828 ∷ parameter 34 ∷  -- BankwidthINTEL
    enumerant 25 5829 ∷ parameter 34 ∷  -- MaxPrivateCopiesINTEL
    enumerant 25 5830 ∷  -- SinglepumpINTEL
    enumerant 25 5831 ∷  -- DoublepumpINTEL
    enumerant 25 5832 ∷ parameter 34 ∷  -- MaxReplicatesINTEL
    enumerant 25 5833 ∷  -- SimpleDualPortINTEL
    enumerant 25 5834 ∷ parameter 40 ∷ parameter 40 ∷  -- MergeINTEL
    enumerant 25 5835 ∷ parameter 34 ∷  -- BankBitsINTEL
    enumerant 25 5836 ∷ parameter 34 ∷  -- ForcePow2DepthINTEL
    -- kind 26, BuiltIn
    enumerant 26 0 ∷  -- Position
    enumerant 26 1 ∷  -- PointSize
    enumerant 26 3 ∷  -- ClipDistance
    enumerant 26 4 ∷  -- CullDistance
    enumerant 26 5 ∷  -- VertexId
    enumerant 26 6 ∷  -- InstanceId
    enumerant 26 7 ∷  -- PrimitiveId
    enumerant 26 8 ∷  -- InvocationId
    enumerant 26 9 ∷  -- Layer
    enumerant 26 10 ∷  -- ViewportIndex
    enumerant 26 11 ∷  -- TessLevelOuter
    enumerant 26 12 ∷  -- TessLevelInner
    enumerant 26 13 ∷  -- TessCoord
    enumerant 26 14 ∷  -- PatchVertices
    enumerant 26 15 ∷  -- FragCoord
    enumerant 26 16 ∷  -- PointCoord
    enumerant 26 17 ∷  -- FrontFacing
    enumerant 26 18 ∷  -- SampleId
    enumerant 26 19 ∷  -- SamplePosition
    enumerant 26 20 ∷  -- SampleMask
    enumerant 26 22 ∷  -- FragDepth
    enumerant 26 23 ∷  -- HelperInvocation
    enumerant 26 24 ∷  -- NumWorkgroups
    enumerant 26 25 ∷  -- WorkgroupSize
    enumerant 26 26 ∷  -- WorkgroupId
    enumerant 26 27 ∷  -- LocalInvocationId
    enumerant 26 28 ∷  -- GlobalInvocationId
    enumerant 26 29 ∷  -- LocalInvocationIndex
    enumerant 26 30 ∷  -- WorkDim
    enumerant 26 31 ∷  -- GlobalSize
    enumerant 26 32 ∷  -- EnqueuedWorkgroupSize
    enumerant 26 33 ∷  -- GlobalOffset
    enumerant 26 34 ∷  -- GlobalLinearId
    enumerant 26 36 ∷  -- SubgroupSize
    enumerant 26 37 ∷  -- SubgroupMaxSize
    enumerant 26 38 ∷  -- NumSubgroups
    enumerant 26 39 ∷  -- NumEnqueuedSubgroups
    enumerant 26 40 ∷  -- SubgroupId
    enumerant 26 41 ∷  -- SubgroupLocalInvocationId
    enumerant 26 42 ∷  -- VertexIndex
    enumerant 26 43 ∷  -- InstanceIndex
    enumerant 26 4416 ∷  -- SubgroupEqMask
    enumerant 26 4417 ∷  -- SubgroupGeMask
    enumerant 26 4418 ∷  -- SubgroupGtMask
    enumerant 26 4419 ∷  -- SubgroupLeMask
    enumerant 26 4420 ∷  -- SubgroupLtMask
    enumerant 26 4424 ∷  -- BaseVertex
    enumerant 26 4425 ∷  -- BaseInstance
    enumerant 26 4426 ∷  -- DrawIndex
    enumerant 26 4432 ∷  -- PrimitiveShadingRateKHR
    enumerant 26 4438 ∷  -- DeviceIndex
    enumerant 26 4440 ∷  -- ViewIndex
    enumerant 26 4444 ∷  -- ShadingRateKHR
    enumerant 26 4992 ∷  -- BaryCoordNoPerspAMD
    enumerant 26 4993 ∷  -- BaryCoordNoPerspCentroidAMD
    enumerant 26 4994 ∷  -- BaryCoordNoPerspSampleAMD
    enumerant 26 4995 ∷  -- BaryCoordSmoothAMD
    enumerant 26 4996 ∷  -- BaryCoordSmoothCentroidAMD
    enumerant 26 4997 ∷  -- BaryCoordSmoothSampleAMD
    enumerant 26 4998 ∷  -- BaryCoordPullModelAMD
    enumerant 26 5014 ∷  -- FragStencilRefEXT
    enumerant 26 5253 ∷  -- ViewportMaskNV
    enumerant 26 5257 ∷  -- SecondaryPositionNV
    enumerant 26 5258 ∷  -- SecondaryViewportMaskNV
    enumerant 26 5261 ∷  -- PositionPerViewNV
    enumerant 26 5262 ∷  -- ViewportMaskPerViewNV
    enumerant 26 5264 ∷  -- FullyCoveredEXT
    enumerant 26 5274 ∷  -- TaskCountNV
    enumerant 26 5275 ∷  -- PrimitiveCountNV
    enumerant 26 5276 ∷  -- PrimitiveIndicesNV
    enumerant 26 5277 ∷  -- ClipDistancePerViewNV
    enumerant 26 5278 ∷  -- CullDistancePerViewNV
    enumerant 26 5279 ∷  -- LayerPerViewNV
    enumerant 26 5280 ∷  -- MeshViewCountNV
    enumerant 26 5281 ∷  -- MeshViewIndicesNV
    enumerant 26 5286 ∷  -- BaryCoordNV
    enumerant 26 5287 ∷  -- BaryCoordNoPerspNV
    enumerant 26 5292 ∷  -- FragSizeEXT
    enumerant 26 5293 ∷  -- FragInvocationCountEXT
    enumerant 26 5319 ∷  -- LaunchIdNV
    enumerant 26 5320 ∷  -- LaunchSizeNV
    enumerant 26 5321 ∷  -- WorldRayOriginNV
    enumerant 26 5322 ∷  -- WorldRayDirectionNV
    enumerant 26 5323 ∷  -- ObjectRayOriginNV
    enumerant 26 5324 ∷  -- ObjectRayDirectionNV
    enumerant 26 5325 ∷  -- RayTminNV
    enumerant 26 5326 ∷  -- RayTmaxNV
    enumerant 26 5327 ∷  -- InstanceCustomIndexNV
    enumerant 26 5330 ∷  -- ObjectToWorldNV
    enumerant 26 5331 ∷  -- WorldToObjectNV
    enumerant 26 5332 ∷  -- HitTNV
    enumerant 26 5333 ∷  -- HitKindNV
    enumerant 26 5351 ∷  -- IncomingRayFlagsNV
    enumerant 26 5352 ∷  -- RayGeometryIndexKHR
    enumerant 26 5374 ∷  -- WarpsPerSMNV
    enumerant 26 5375 ∷  -- SMCountNV
    enumerant 26 5376 ∷  -- WarpIDNV
    enumerant 26 5377 ∷  -- SMIDNV
    -- kind 27, Scope
    enumerant 27 0 ∷  -- CrossDevice
    enumerant 27 1 ∷  -- Device
    enumerant 27 2 ∷  -- Workgroup
    enumerant 27 3 ∷  -- Subgroup
    enumerant 27 4 ∷  -- Invocation
    enumerant 27 5 ∷  -- QueueFamily
    enumerant 27 6 ∷  -- ShaderCallKHR
    -- kind 28, GroupOperation
    enumerant 28 0 ∷  -- Reduce
    enumerant 28 1 ∷  -- InclusiveScan
    enumerant 28 2 ∷  -- ExclusiveScan
    enumerant 28 3 ∷  -- ClusteredReduce
    enumerant 28 6 ∷  -- PartitionedReduceNV
    enumerant 28 7 ∷  -- PartitionedInclusiveScanNV
    enumerant 28 8 ∷  -- PartitionedExclusiveScanNV
    -- kind 29, KernelEnqueueFlags
    enumerant 29 0 ∷  -- NoWait
    enumerant 29 1 ∷  -- WaitKernel
    enumerant 29 2 ∷  -- WaitWorkGroup
    -- kind 30, Capability
    enumerant 30 0 ∷  -- Matrix
    enumerant 30 1 ∷  -- Shader
    enumerant 30 2 ∷  -- Geometry
    enumerant 30 3 ∷  -- Tessellation
    enumerant 30 4 ∷  -- Addresses
    enumerant 30 5 ∷  -- Linkage
    enumerant 30 6 ∷  -- Kernel
    enumerant 30 7 ∷  -- Vector16
    enumerant 30 8 ∷  -- Float16Buffer
    enumerant 30 9 ∷  -- Float16
    enumerant 30 10 ∷  -- Float64
    enumerant 30 11 ∷  -- Int64
    enumerant 30 12 ∷  -- Int64Atomics
    enumerant 30 13 ∷  -- ImageBasic
    enumerant 30 14 ∷  -- ImageReadWrite
    enumerant 30 15 ∷  -- ImageMipmap
    enumerant 30 17 ∷  -- Pipes
    enumerant 30 18 ∷  -- Groups
    enumerant 30 19 ∷  -- DeviceEnqueue
    enumerant 30 20 ∷  -- LiteralSampler
    enumerant 30 21 ∷  -- AtomicStorage
    enumerant 30 22 ∷  -- Int16
    enumerant 30 23 ∷  -- TessellationPointSize
    enumerant 30 24 ∷  -- GeometryPointSize
    enumerant 30 25 ∷  -- ImageGatherExtended
    enumerant 30 27 ∷  -- StorageImageMultisample
    enumerant 30 28 ∷  -- UniformBufferArrayDynamicIndexing
    enumerant 30 29 ∷  -- SampledImageArrayDynamicIndexing
    enumerant 30 30 ∷  -- StorageBufferArrayDynamicIndexing
    enumerant 30 31 ∷  -- StorageImageArrayDynamicIndexing
    enumerant 30 32 ∷  -- ClipDistance
    enumerant 30 33 ∷  -- CullDistance
    enumerant 30 34 ∷  -- ImageCubeArray
    enumerant 30 35 ∷  -- SampleRateShading
    enumerant 30 36 ∷  -- ImageRect
    enumerant 30 37 ∷  -- SampledRect
    enumerant 30 38 ∷  -- GenericPointer
    enumerant 30 39 ∷  -- Int8
    enumerant 30 40 ∷  -- InputAttachment
    enumerant 30 41 ∷  -- SparseResidency
    enumerant 30 42 ∷  -- MinLod
    enumerant 30 43 ∷  -- Sampled1D
    enumerant 30 44 ∷  -- Image1D
    enumerant 30 45 ∷  -- SampledCubeArray
    enumerant 30 46 ∷  -- SampledBuffer
    enumerant 30 47 ∷  -- ImageBuffer
    enumerant 30 48 ∷  -- ImageMSArray
    enumerant 30 49 ∷  -- StorageImageExtendedFormats
    enumerant 30 50 ∷  -- ImageQuery
    enumerant 30 51 ∷  -- DerivativeControl
    enumerant 30 52 ∷  -- InterpolationFunction
    enumerant 30 53 ∷  -- TransformFeedback
    enumerant 30 54 ∷  -- GeometryStreams
    enumerant 30 55 ∷  -- StorageImageReadWithoutFormat
    enumerant 30 56 ∷  -- StorageImageWriteWithoutFormat
    enumerant 30 57 ∷  -- MultiViewport
    enumerant 30 58 ∷  -- SubgroupDispatch
    enumerant 30 59 ∷  -- NamedBarrier
    enumerant 30 60 ∷  -- PipeStorage
    enumerant 30 61 ∷  -- GroupNonUniform
    enumerant 30 62 ∷  -- GroupNonUniformVote
    enumerant 30 63 ∷  -- GroupNonUniformArithmetic
    enumerant 30 64 ∷  -- GroupNonUniformBallot
    enumerant 30 65 ∷  -- GroupNonUniformShuffle
    enumerant 30 66 ∷  -- GroupNonUniformShuffleRelative
    enumerant 30 67 ∷  -- GroupNonUniformClustered
    enumerant 30 68 ∷  -- GroupNonUniformQuad
    enumerant 30 69 ∷  -- ShaderLayer
    enumerant 30 70 ∷  -- ShaderViewportIndex
    enumerant 30 4422 ∷  -- FragmentShadingRateKHR
    enumerant 30 4423 ∷  -- SubgroupBallotKHR
    enumerant 30 4427 ∷  -- DrawParameters
    enumerant 30 4431 ∷  -- SubgroupVoteKHR
    enumerant 30 4433 ∷  -- StorageBuffer16BitAccess
    enumerant 30 4434 ∷  -- UniformAndStorageBuffer16BitAccess
    enumerant 30 4435 ∷  -- StoragePushConstant16
    enumerant 30 4436 ∷  -- StorageInputOutput16
    enumerant 30 4437 ∷  -- DeviceGroup
    enumerant 30 4439 ∷  -- MultiView
    enumerant 30 4441 ∷  -- VariablePointersStorageBuffer
    enumerant 30 4442 ∷  -- VariablePointers
    enumerant 30 4445 ∷  -- AtomicStorageOps
    enumerant 30 4447 ∷  -- SampleMaskPostDepthCoverage
    enumerant 30 4448 ∷  -- StorageBuffer8BitAccess
    enumerant 30 4449 ∷  -- UniformAndStorageBuffer8BitAccess
    enumerant 30 4450 ∷  -- StoragePushConstant8
    enumerant 30 4464 ∷  -- DenormPreserve
    enumerant 30 4465 ∷  -- DenormFlushToZero
    enumerant 30 4466 ∷  -- SignedZeroInfNanPreserve
    enumerant 30 4467 ∷  -- RoundingModeRTE
    enumerant 30 4468 ∷  -- RoundingModeRTZ
    enumerant 30 4471 ∷  -- RayQueryProvisionalKHR
    enumerant 30 4472 ∷  -- RayQueryKHR
    enumerant 30 4478 ∷  -- RayTraversalPrimitiveCullingKHR
    enumerant 30 4479 ∷  -- RayTracingKHR
    enumerant 30 5008 ∷  -- Float16ImageAMD
    enumerant 30 5009 ∷  -- ImageGatherBiasLodAMD
    enumerant 30 5010 ∷  -- FragmentMaskAMD
    enumerant 30 5013 ∷  -- StencilExportEXT
    enumerant 30 5015 ∷  -- ImageReadWriteLodAMD
    enumerant 30 5016 ∷  -- Int64ImageEXT
    enumerant 30 5055 ∷  -- ShaderClockKHR
    enumerant 30 5249 ∷  -- SampleMaskOverrideCoverageNV
    enumerant 30 5251 ∷  -- GeometryShaderPassthroughNV
    enumerant 30 5254 ∷  -- ShaderViewportIndexLayerEXT
    enumerant 30 5255 ∷  -- ShaderViewportMaskNV
    enumerant 30 5259 ∷  -- ShaderStereoViewNV
    enumerant 30 5260 ∷  -- PerViewAttributesNV
    enumerant 30 5265 ∷  -- FragmentFullyCoveredEXT
    enumerant 30 5266 ∷  -- MeshShadingNV
    enumerant 30 5282 ∷  -- ImageFootprintNV
    enumerant 30 5284 ∷  -- FragmentBarycentricNV
    enumerant 30 5288 ∷  -- ComputeDerivativeGroupQuadsNV
    enumerant 30 5291 ∷  -- FragmentDensityEXT
    enumerant 30 5297 ∷  -- GroupNonUniformPartitionedNV
    enumerant 30 5301 ∷  -- ShaderNonUniform
    enumerant 30 5302 ∷  -- RuntimeDescriptorArray
    enumerant 30 5303 ∷  -- InputAttachmentArrayDynamicIndexing
    enumerant 30 5304 ∷  -- UniformTexelBufferArrayDynamicIndexing
    enumerant 30 5305 ∷  -- StorageTexelBufferArrayDynamicIndexing
    enumerant 30 5306 ∷  -- UniformBufferArrayNonUniformIndexing
    enumerant 30 5307 ∷  -- SampledImageArrayNonUniformIndexing
    enumerant 30 5308 ∷  -- StorageBufferArrayNonUniformIndexing
    enumerant 30 5309 ∷  -- StorageImageArrayNonUniformIndexing
    enumerant 30 5310 ∷  -- InputAttachmentArrayNonUniformIndexing
    enumerant 30 5311 ∷  -- UniformTexelBufferArrayNonUniformIndexing
    enumerant 30 5312 ∷  -- StorageTexelBufferArrayNonUniformIndexing
    enumerant 30 5340 ∷  -- RayTracingNV
    enumerant 30 5345 ∷  -- VulkanMemoryModel
    enumerant 30 5346 ∷  -- VulkanMemoryModelDeviceScope
    enumerant 30 5347 ∷  -- PhysicalStorageBufferAddresses
    enumerant 30 5350 ∷  -- ComputeDerivativeGroupLinearNV
    enumerant 30 5353 ∷  -- RayTracingProvisionalKHR
    enumerant 30 5357 ∷  -- CooperativeMatrixNV
    enumerant 30 5363 ∷  -- FragmentShaderSampleInterlockEXT
    enumerant 30 5372 ∷  -- FragmentShaderShadingRateInterlockEXT
    enumerant 30 5373 ∷  -- ShaderSMBuiltinsNV
    enumerant 30 5378 ∷  -- FragmentShaderPixelInterlockEXT
    enumerant 30 5379 ∷  -- DemoteToHelperInvocationEXT
    enumerant 30 5568 ∷  -- SubgroupShuffleINTEL
    enumerant 30 5569 ∷  -- SubgroupBufferBlockIOINTEL
    enumerant 30 5570 ∷  -- SubgroupImageBlockIOINTEL
    enumerant 30 5579 ∷  -- SubgroupImageMediaBlockIOINTEL
    enumerant 30 5584 ∷  -- IntegerFunctions2INTEL
    enumerant 30 5603 ∷  -- FunctionPointersINTEL
    enumerant 30 5604 ∷  -- IndirectReferencesINTEL
    enumerant 30 5696 ∷  -- SubgroupAvcMotionEstimationINTEL
    enumerant 30 5697 ∷  -- SubgroupAvcMotionEstimationIntraINTEL
    enumerant 30 5698 ∷  -- SubgroupAvcMotionEstimationChromaINTEL
    enumerant 30 5824 ∷  -- FPGAMemoryAttributesINTEL
    enumerant 30 5886 ∷  -- UnstructuredLoopControlsINTEL
    enumerant 30 5888 ∷  -- FPGALoopControlsINTEL
    enumerant 30 5892 ∷  -- KernelAttributesINTEL
    enumerant 30 5897 ∷  -- FPGAKernelAttributesINTEL
    enumerant 30 5945 ∷  -- BlockingPipesINTEL
    enumerant 30 5948 ∷  -- FPGARegINTEL
    enumerant 30 6033 ∷  -- AtomicFloat32AddEXT
    enumerant 30 6034 ∷  -- AtomicFloat64AddEXT
    -- kind 31, IdMemorySemantics: no enumerants
    -- kind 32, IdScope: no enumerants
    -- kind 33, IdRef: no enumerants
    -- kind 34, LiteralInt32: no enumerants
    -- kind 35, LiteralExtInstInteger: no enumerants
    -- kind 36, LiteralInt64: no enumerants
    -- kind 37, LiteralFloat32: no enumerants
    -- kind 38, LiteralFloat64: no enumerants
    -- kind 39, LiteralSpecConstantOpInteger: no enumerants
    -- kind 40, LiteralString: no enumerants
    -- kind 41, RayFlags
    enumerant 41 0 ∷  -- NONE_KHR
    enumerant 41 1 ∷  -- OPAQUE_KHR
    enumerant 41 2 ∷  -- NO_OPAQUE_KHR
    enumerant 41 4 ∷  -- TERMINATE_ON_FIRST_HIT_KHR
    enumerant 41 8 ∷  -- SKIP_CLOSEST_HIT_SHADER_KHR
    enumerant 41 16 ∷  -- CULL_BACK_FACING_TRIANGLES_KHR
    enumerant 41 32 ∷  -- CULL_FRONT_FACING_TRIANGLES_KHR
    enumerant 41 64 ∷  -- CULL_OPAQUE_KHR
    enumerant 41 128 ∷  -- CULL_NO_OPAQUE_KHR
    enumerant 41 256 ∷  -- SKIP_TRIANGLES_KHR
    enumerant 41 512 ∷  -- SKIP_AAB_BS_KHR
    -- kind 42, RayQueryIntersection
    enumerant 42 0 ∷  -- RayQueryCandidateIntersectionKHR
    enumerant 42 1 ∷  -- RayQueryCommittedIntersectionKHR
    -- kind 43, RayQueryCommittedIntersectionType
    enumerant 43 0 ∷  -- RayQueryCommittedIntersectionNoneKHR
    enumerant 43 1 ∷  -- RayQueryCommittedIntersectionTriangleKHR
    enumerant 43 2 ∷  -- RayQueryCommittedIntersectionGeneratedKHR
    -- kind 44, RayQueryCandidateIntersectionType
    enumerant 44 0 ∷  -- RayQueryCandidateIntersectionTriangleKHR
    enumerant 44 1 ∷  -- RayQueryCandidateIntersectionAABBKHR
    -- kind 45, FragmentShadingRate
    enumerant 45 1 ∷  -- VERTICAL2_PIXELS
    enumerant 45 2 ∷  -- VERTICAL4_PIXELS
    enumerant 45 4 ∷  -- HORIZONTAL2_PIXELS
    enumerant 45 8 ∷  -- HORIZONTAL4_PIXELS
    -- kind 46, IdResultType: no enumerants
    -- kind 47, IdResult: no enumerants
    -- kind 48, LiteralContextDependentNumber: no enumerants
    -- kind 49, PairLiteralIntegerIdRef: no enumerants
    -- kind 50, PairIdRefLiteralInteger: no enumerants
    -- kind 51, PairIdRefIdRef: no enumerants
    []
