mod Slicing
