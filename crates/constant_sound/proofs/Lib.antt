mod Arithmetic
mod Operands
mod Trees
mod Expressions
mod Once
mod Refused
mod Rows
